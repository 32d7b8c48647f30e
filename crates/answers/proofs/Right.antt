-- A line's bytes as a chain looks at them: each with its place. Assumes nothing.
use Rattle.std.proofs.Common.{◌≡◌, ℕ, suc, ◌%◌, ◌&&◌, List, [], ◌∷◌, refl, ap, add-one}
use Rattle.std.specs.List.{list_all, enumerate_from}
use Rattle.answers.specs.Line.{is_right, all_right}

pub all_by_place : (apart i : ℕ) (text : List ℕ) → all_right apart i text ≡ list_all (λ p. is_right (p.0 % apart) p.1) (enumerate_from i text)
unfolding all_right
all_by_place apart i [] = refl
all_by_place apart i (byte ∷ bytes) = rw add-one (ap (λ rest. is_right (i % apart) byte && rest) (all_by_place apart (suc i) bytes))
