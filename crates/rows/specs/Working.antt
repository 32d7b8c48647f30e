-- Working definitions: what the contracts of the row loops cite. No reader of document 01 needs them. Assumes nothing.
use Rattle.std.specs.Prelude.{ℕ, ◌+◌, ◌*◌, ◌^◌, ◌<◌, ◌≤◌, ◌≡◌, ◌⊎◌, List, length}
use Rattle.rows.specs.Column.{Col, column}
use Rattle.rows.specs.declared.Stripe.{Stripe}

-- ---- a word function by the words that its calls return

-- each call returns g of its three words
pub record Makes (post : ℕ → ℕ → ℕ → ℕ → Type 0) (g : ℕ → ℕ → ℕ → ℕ) : Type 0 where
  pub value : (x y z r : ℕ) → x < 2 ^ 64 → y < 2 ^ 64 → z < 2 ^ 64 → post x y z r → r ≡ g x y z

-- each call returns two words, g and h of its three
pub record MakesTwo (post : ℕ → ℕ → ℕ → ℕ × ℕ → Type 0) (g h : ℕ → ℕ → ℕ → ℕ) : Type 0 where
  pub values : (x y z : ℕ) (r : ℕ × ℕ) → x < 2 ^ 64 → y < 2 ^ 64 → z < 2 ^ 64 → post x y z r → (r.0 ≡ g x y z) × (r.1 ≡ h x y z)

-- ---- a function run across a stripe

-- register r is one of the rows, and an array of n words holds its row whole
abbrev pub InRow : Stripe → ℕ → ℕ → Type 0
InRow s n r = (r < s.rows) × (r * s.width + s.width ≤ n)

-- ys is xs with F run on the stripe's first n columns, and every other column as it was
pub record Done (F : Col → Col) (s : Stripe) (n : ℕ) (xs ys : List ℕ) : Type 0 where
  pub size : length ys ≡ length xs
  pub inside : (k : ℕ) → k < n → column s.rows s.width ys (s.first + k) ≡ F (column s.rows s.width xs (s.first + k))
  pub outside : (c : ℕ) → c < s.width → (c < s.first) ⊎ (s.first + n ≤ c)
      → column s.rows s.width ys c ≡ column s.rows s.width xs c

-- and on all of its columns
abbrev pub Across : (Col → Col) → Stripe → List ℕ → List ℕ → Type 0
Across F s xs ys = Done F s s.count xs ys
