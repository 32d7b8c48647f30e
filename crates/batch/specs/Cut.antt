-- A batch and its cut into consecutive stripes, each with a report buffer of its own, in an order of running. Assumes nothing.
use Rattle.std.specs.Prelude.{ℕ, ◌+◌, ◌*◌, ◌≡◌, length}
use mathlib.Core.List.{List, [], ◌∷◌, map, Permᴰ}
use Rattle.report.specs.Sizes.{record_words}

-- a program and a populated array of rows x width words, with one cap for all
pub record Batch : Type 0 where
  pub code : List ℕ
  pub rows : ℕ
  pub width : ℕ
  pub cap : ℕ
  pub values : List ℕ

-- a stripe: its first column and its column count
pub record Part : Type 0 where
  pub first : ℕ
  pub count : ℕ

abbrev pub part : ℕ → ℕ → Part
part first count = record { first = first; count = count }

-- a stripe and the buffer that its run reports into
pub record Share : Type 0 where
  pub stripe : Part
  pub buffer : List ℕ

abbrev pub share : ℕ → ℕ → List ℕ → Share
share first count buffer = record { stripe = part first count; buffer = buffer }

abbrev pub stripe_of : Share → Part
stripe_of s = s.stripe

-- ---- a cut

-- consecutive stripes of the given counts, from a column on; a count may be 0
abbrev pub consecutive : ℕ → List ℕ → List Part
consecutive first [] = []
consecutive first (n ∷ ns) = part first n ∷ consecutive (first + n) ns

abbrev pub total : List ℕ → ℕ
total [] = 0
total (n ∷ ns) = n + total ns

-- each buffer has room for exactly the records that the cap lets it keep; what is in it is left open
abbrev pub Roomy : ℕ → List Share → Type 0
Roomy cap [] = Unit {0}
Roomy cap (s ∷ ss) = (length s.buffer ≡ cap * record_words) × Roomy cap ss

-- shares in the order in which they are run: their stripes are, in some order, the consecutive ones of counts that add up to the width
pub record Cut (b : Batch) (ss : List Share) : Type 0 where
  pub counts : List ℕ
  pub whole : total counts ≡ b.width
  pub order : Permᴰ (map stripe_of ss) (consecutive 0 counts)
  pub roomy : Roomy b.cap ss
