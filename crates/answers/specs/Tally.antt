-- What agrees, counted; bytes and words compared and stored. Assumes nothing.
use Rattle.std.specs.Prelude.{ℕ, zero, suc, ◌+◌, ◌*◌, ◌/◌, ◌%◌, ◌^◌, Bool, true, false, cond, ◌&&◌, List, [], ◌∷◌, get_or, set, ◌==◌}
use Rattle.std.specs.List.{list_all, enumerate_from}
use Rattle.answers.specs.declared.tally.Tally.{Tally}

-- one case more, and where it agrees one more that agrees
abbrev pub noted : Tally → Bool → Tally
noted tally agrees = record { agree = (tally.agree + cond agrees 1 0) % 2 ^ 64; all = (tally.all + 1) % 2 ^ 64 }

-- rotated left by five bits, the word added, and 1, each within a word
abbrev pub sum_after : (sum word : ℕ) → ℕ
sum_after sum word = (((sum * 32 % 2 ^ 64 + sum / 2 ^ 59) % 2 ^ 64 + word) % 2 ^ 64 + 1) % 2 ^ 64

-- n bytes of each there are, and they are the same
unfoldable pub same : ℕ → List ℕ → List ℕ → Bool
same zero xs ys = true
same (suc n) [] ys = false
same (suc n) (x ∷ xs) [] = false
same (suc n) (x ∷ xs) (y ∷ ys) = x == y && same n xs ys

-- the values stand in the list from a place on, where past its end there is another value
abbrev pub stand : {A : Type 0} → (A → A → Bool) → List A → ℕ → A → List A → Bool
stand eq list place otherwise values = list_all (λ p. eq (get_or list (place + p.0) otherwise) p.1) (enumerate_from 0 values)

-- the four bytes of a number from a place on, the most significant first
abbrev pub four_at : List ℕ → (at four : ℕ) → List ℕ
four_at bytes at four =
    set
    (set (set (set bytes at (four / 16777216 % 256)) (at + 1) (four / 65536 % 256)) (at + 2) (four / 256 % 256))
    (at + 3)
    (four % 256)
