-- Document 01, "Numbered refusals": the number of each.
use Rattle.std.specs.Prelude.{ℕ}
use Rattle.refusal.specs.declared.Refusal.{Refusal}
use Rattle.refusal.specs.declared.Refusal.TheVariants.{BadShape, BadCap, TooLong, UnknownOpcode, NotCarried, Truncated, BadShift, BadHint, BadRegister, Overlap, NoRoom, SamePosition, BadPosition, BadGates}

abbrev pub number_of : Refusal → ℕ
number_of BadShape = 1
number_of BadCap = 2
number_of TooLong = 3
number_of UnknownOpcode = 4
number_of NotCarried = 5
number_of Truncated = 6
number_of BadShift = 7
number_of BadHint = 8
number_of BadRegister = 9
number_of Overlap = 10
number_of NoRoom = 11
number_of SamePosition = 12
number_of BadPosition = 13
number_of BadGates = 14
