-- Laws of the variants' codes and of refusal 7. Assumes nothing.
use mathlib.Core.Path.{◌≡◌, refl, sym, ap, ◌∙◌}
use mathlib.Core.Bool.{false}
use Rattle.std.specs.Prelude.{Ok}
use Prim.Native.Nat.{ℕ, zero, suc, ◌-◌, ◌<◌}
use native.Mathlib.Omega.{arith}
use borrow.Author.Tests.{ltb-false}
use lib.Dec.{ltb, lit<}
use Rattle.shift.specs.Variant.{width_of, code_of, variant_of, read_variant, bad_variant, bad_amount}
use Rattle.shift.specs.declared.ShiftVariant.{ShiftVariant}
use Rattle.shift.specs.declared.ShiftVariant.TheVariants.{Sll, Slr, Sar, Rotr, Sll32, Srl32, Sra32, Rotr32}

-- what holds of each variant by computing alone
by_variant : (Q : ShiftVariant → Type 0) → Q Sll → Q Slr → Q Sar → Q Rotr → Q Sll32 → Q Srl32 → Q Sra32 → Q Rotr32 → (v : ShiftVariant) → Q v
by_variant Q a b c d e f g h Sll = a
by_variant Q a b c d e f g h Slr = b
by_variant Q a b c d e f g h Sar = c
by_variant Q a b c d e f g h Rotr = d
by_variant Q a b c d e f g h Sll32 = e
by_variant Q a b c d e f g h Srl32 = f
by_variant Q a b c d e f g h Sra32 = g
by_variant Q a b c d e f g h Rotr32 = h

-- reading the byte that names a variant gives the variant back
pub read_code : (v : ShiftVariant) → read_variant (code_of v) ≡ Ok v
read_code = by_variant (λ v. read_variant (code_of v) ≡ Ok v) refl refl refl refl refl refl refl refl

-- the amount is bad exactly when it is over the variant's width less 1
pub amount_code : (v : ShiftVariant) (n : ℕ) → bad_amount (code_of v) n ≡ ltb (width_of v - 1) n
amount_code v n = by_variant (λ v. bad_amount (code_of v) n ≡ ltb (width_of v - 1) n) refl refl refl refl refl refl refl refl v

-- a byte that is not over 7 names the variant that it reads as
pub code_variant : (c : ℕ) → bad_variant c ≡ false → code_of (variant_of c) ≡ c
code_variant zero e = refl
code_variant (suc zero) e = refl
code_variant (suc (suc zero)) e = refl
code_variant (suc (suc (suc zero))) e = refl
code_variant (suc (suc (suc (suc zero)))) e = refl
code_variant (suc (suc (suc (suc (suc zero))))) e = refl
code_variant (suc (suc (suc (suc (suc (suc zero)))))) e = refl
code_variant (suc (suc (suc (suc (suc (suc (suc zero))))))) e = refl
code_variant (suc (suc (suc (suc (suc (suc (suc (suc c)))))))) e = let k : ℕ = suc (suc (suc (suc (suc (suc (suc (suc c))))))) in absurd (omega (arith, ltb-false 7 k e))

-- what the two tests let by is what a shift requires
pub let_by : (c n : ℕ) → bad_variant c ≡ false → bad_amount c n ≡ false → n < width_of (variant_of c)
let_by c n e f =
    let v = variant_of c in
    let h = ltb-false (width_of v - 1) n (sym (amount_code v n) ∙ ap (λ (k : ℕ). bad_amount k n) (code_variant c e) ∙ f) in
    omega (arith, some v)
  where
    some : (v : ShiftVariant) → 0 < width_of v
    some = by_variant (λ v. 0 < width_of v) (lit< tt) (lit< tt) (lit< tt) (lit< tt) (lit< tt) (lit< tt) (lit< tt) (lit< tt)
