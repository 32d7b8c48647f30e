-- What raising and joining words answer, and the policy flag; check, run and pool answer their packing as it is. A word whose low byte is not 0 is a refusal, and comes back as it is. Assumes nothing.
use Rattle.std.specs.Prelude.{ℕ, Bool, true, false, cond, eqb}
use Rattle.report.specs.Join.{raised, joined}
use Rattle.scratch.specs.declared.Policy.{Policy}
use Rattle.scratch.specs.declared.Policy.TheVariants.{PerWire, Pooled}
use Rattle.gussetglen.specs.Packing.{number_in, stripe_in, batch_in, packed_raised, packed_joined}

-- the word itself where it holds a refusal, else what follows
abbrev pub unless_refused : ℕ → ℕ → ℕ
unless_refused word answer = cond (eqb (number_in word) 0) answer word

abbrev pub raised_word : (start word : ℕ) → ℕ
raised_word start word = unless_refused word (packed_raised (raised start (stripe_in word)))

-- the left refusal before the right one
abbrev pub joined_word : (left right : ℕ) → ℕ
joined_word left right = unless_refused left (unless_refused right (packed_joined (joined (batch_in left) (batch_in right))))

-- the policy that the host's flag names
abbrev pub policy_of : Bool → Policy
policy_of true = PerWire
policy_of false = Pooled
