-- `word::bitwise::bxor_multi` meets its contract. Assumes nothing.
use Rattle.std.proofs.Common.{◌≡◌, ℕ, List, [], ◌∷◌, ◌++◌, rules, refl, subst, sym, ap, ◌∙◌, bit_xor}
use Rattle.std.proofs.lemmas.Fn.{fold_over, slice_gives, fronts}
use lib.Bits.{xor_zero_l, xor_zero_r}
use Rattle.common.proofs.Digits.{xor_assoc}
use Rattle.word.specs.Bitwise.{xor_all}
use Rattle.word.proofs.bitwise.bxor_multi.Goals as goal

-- one more source
xor-more : (xs : List ℕ) (x a b : ℕ) → a ≡ xor_all xs → b ≡ bit_xor a x → b ≡ xor_all (xs ++ (x ∷ []))
xor-more [] x a b e f = f ∙ ap (λ (n : ℕ). bit_xor n x) e ∙ xor_zero_l x ∙ sym (xor_zero_r x)
xor-more (y ∷ ys) x a b e f = f ∙ ap (λ (n : ℕ). bit_xor n x) e ∙ xor_assoc y (xor_all ys) x ∙ ap (bit_xor y) (xor-more ys x (xor_all ys) (bit_xor (xor_all ys) x) (λ i. xor_all ys) (λ i. bit_xor (xor_all ys) x))

pub returns : goal.returns
returns c =
    subst (λ l. c.fold.result ≡ xor_all l) c.iter.ensures.rest
    (fold_over fronts (λ y. y.now) _ (λ ys a. a ≡ xor_all ys) _ (λ ys a x b f' j k. search (rules, xor-more)) _ _ _ _ (slice_gives c.iter.result) refl c.fold.ensures.ran)
