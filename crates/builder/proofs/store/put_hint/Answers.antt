-- `builder::store::put_hint` meets its contract: its four parts in a row. Assumes nothing.
use Rattle.std.proofs.Common.{◌∷◌, ◌++◌, length, map-id}
use Rattle.bytecode.proofs.Words.{les_app}
use Rattle.builder.proofs.store.put_hint.Goals as goal

pub returns : goal.returns
returns c =
    let d = c.args.dims.now in
    let i = c.args.inputs.now in
    let o = c.args.outputs.now in
    rw (les_app d (length i ∷ length o ∷ (i ++ o)), les_app i o)
    (rw (c.put_counted.ensures, c.put_words.ensures, c.put_words-2.ensures, c.put_words-3.ensures, map-id d, map-id i, map-id o))
