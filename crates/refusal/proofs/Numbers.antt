-- Laws of the refusals' numbers. Assumes nothing.
use Prim.Native.Nat.{ℕ, ◌-◌, ◌≤◌}
use mathlib.Core.Path.{◌≡◌, refl, sym, ap, ◌∙◌}
use mathlib.Core.List.{List, [], ◌∷◌, map}
use lib.Dec.{lit≤}
use lib.ListN.{get_or}
use Rattle.refusal.specs.Number.{number_of}
use Rattle.refusal.specs.declared.Refusal.{Refusal}
use Rattle.refusal.specs.declared.Refusal.TheVariants.{BadShape, BadCap, TooLong, UnknownOpcode, NotCarried, Truncated, BadShift, BadHint, BadRegister, Overlap, NoRoom, SamePosition, BadPosition, BadGates}

-- in the order of document 01's table
abbrev in_order : List Refusal
in_order =
    BadShape
    ∷ BadCap
    ∷ TooLong
    ∷ UnknownOpcode
    ∷ NotCarried
    ∷ Truncated
    ∷ BadShift
    ∷ BadHint
    ∷ BadRegister
    ∷ Overlap
    ∷ NoRoom
    ∷ SamePosition
    ∷ BadPosition
    ∷ BadGates
    ∷ []

-- fourteen refusals, numbered 1 to 14
pub numbered : map number_of in_order ≡ 1 ∷ 2 ∷ 3 ∷ 4 ∷ 5 ∷ 6 ∷ 7 ∷ 8 ∷ 9 ∷ 10 ∷ 11 ∷ 12 ∷ 13 ∷ 14 ∷ []
numbered = refl

abbrev named : ℕ → Refusal
named n = get_or in_order (n - 1) BadShape

named_number : (r : Refusal) → named (number_of r) ≡ r
named_number BadShape = refl
named_number BadCap = refl
named_number TooLong = refl
named_number UnknownOpcode = refl
named_number NotCarried = refl
named_number Truncated = refl
named_number BadShift = refl
named_number BadHint = refl
named_number BadRegister = refl
named_number Overlap = refl
named_number NoRoom = refl
named_number SamePosition = refl
named_number BadPosition = refl
named_number BadGates = refl

-- a number names one refusal
pub number_names_one : (r s : Refusal) → number_of r ≡ number_of s → r ≡ s
number_names_one r s e = sym (named_number r) ∙ ap named e ∙ named_number s

-- none is numbered 0, which says that there is none, and all fit a byte
pub number_range : (r : Refusal) → (1 ≤ number_of r) × (number_of r ≤ 14)
number_range BadShape = (lit≤ tt, lit≤ tt)
number_range BadCap = (lit≤ tt, lit≤ tt)
number_range TooLong = (lit≤ tt, lit≤ tt)
number_range UnknownOpcode = (lit≤ tt, lit≤ tt)
number_range NotCarried = (lit≤ tt, lit≤ tt)
number_range Truncated = (lit≤ tt, lit≤ tt)
number_range BadShift = (lit≤ tt, lit≤ tt)
number_range BadHint = (lit≤ tt, lit≤ tt)
number_range BadRegister = (lit≤ tt, lit≤ tt)
number_range Overlap = (lit≤ tt, lit≤ tt)
number_range NoRoom = (lit≤ tt, lit≤ tt)
number_range SamePosition = (lit≤ tt, lit≤ tt)
number_range BadPosition = (lit≤ tt, lit≤ tt)
number_range BadGates = (lit≤ tt, lit≤ tt)
