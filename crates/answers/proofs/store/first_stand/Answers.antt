-- `answers::store::first_stand` meets its contract: the chain compares what is read at each place. Assumes nothing.
use Rattle.std.proofs.Common.{◌+◌, ◌∙◌, get_or, rules, tests}
use Rattle.std.proofs.lemmas.Iterator.{YieldsList-from_slice, YieldsList-from_take}
use Rattle.std.proofs.lemmas.Iterator.Consumers.{YieldsList-from_enumerate}
use Rattle.std.proofs.lemmas.Iterator.Search.{all_from_yields_List}
use Rattle.answers.proofs.Storing.{read_from}
use Rattle.answers.proofs.store.first_stand.Goals as goal

pub returns : goal.returns
returns g c = all_from_yields_List (λ p. g.T.PartialEq.eq (get_or c.args.list.now (c.args.place + p.0) c.args.otherwise) p.1) _ _ _ c.all.ensures.ran (YieldsList-from_enumerate (YieldsList-from_take _ (YieldsList-from_slice c.args.values.now cc) cc) cc) (λ x b q k. search (rules, tests, read_from c.args.list.now c.args.place c.min.result x.0 c.args.otherwise c.min.ensures))
