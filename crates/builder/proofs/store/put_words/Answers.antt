-- `builder::store::put_words` meets its contract: what was stored is one run of stores. Assumes nothing.
use Rattle.std.proofs.Common.{ℕ, ◌≡◌, ◌<◌, ◌*◌, List, length, get_or, map, sym, ap, ◌∙◌, arith}
use Rattle.std.proofs.lemmas.List.{get_or-map, length-map}
use Rattle.common.proofs.Below.{below_at}
use Rattle.std.specs.Int.{to_le_bytes, w32}
use Rattle.builder.proofs.Stores.{put_more, put_done}
use Rattle.builder.proofs.store.put_words.Goals as goal

-- the number of the i-th value is the i-th number
numbered : {X : Type 0} (f : X → ℕ) (xs : List X) (i e : ℕ) {x : X} → i < length xs → x ≡ get_or xs i x → f x ≡ get_or (map f xs) i e
numbered f xs i e {x} h v = ap f v ∙ sym (get_or-map f xs i x e h)

pub field-number-requires : goal.field-number-requires
field-number-requires g c =
    let v = c.args.values.now in
    let number = g.T.Field.number in
    let i = c.loop-i.i in
    let e = numbered number v i 0 c.loop-i-test.true c.index-values-i.is in
    let h = below_at 4294967296 (map number v) i c.requires.fit (omega (arith, length-map v number)) in
    omega arith

pub loop-i-preserved : goal.loop-i-preserved
loop-i-preserved g c =
    let v = c.args.values.now in
    let number = g.T.Field.number in
    let i = c.loop-i.i in
    put_more (c.requires.room ∙ ap (λ (n : ℕ). 4 * n) (sym (length-map v number))) c.loop-i.invariant _ (number c.index-values-i.result)
    (omega (arith, length-map v number)) (numbered number v i _ c.loop-i-test.true c.index-values-i.is)
    (c.copy_from_slice.ensures.after ∙ c.to_le_bytes.ensures ∙ ap (to_le_bytes w32) (omega (arith, c.field-number.ensures))) (omega arith)

pub returns : goal.returns
returns g c =
    let v = c.args.values.now in
    let number = g.T.Field.number in
    put_done (c.requires.room ∙ ap (λ (n : ℕ). 4 * n) (sym (length-map v number))) c.loop-i.invariant (omega (arith, length-map v number))
