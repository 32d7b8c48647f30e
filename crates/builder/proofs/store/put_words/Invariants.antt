-- `builder::store::put_words` meets its contract: what was stored is one run of stores. Assumes nothing.
use Rattle.std.proofs.Common.{map}
use Rattle.builder.proofs.Stores.{Putting}
use Rattle.builder.proofs.store.put_words.Given as goal

abbrev pub invariant-loop-i : goal.invariant-loop-i
invariant-loop-i g l = Putting l.initial.buf (map g.T.Field.number l.values) l.buf l.i
