-- Document 01, "Examples": the marked cases and the sentences behind them, as one table. Each row has the definitions at the example's
-- input, and what the document says, as numbers. proofs/Starred.antt has the one statement. Assumes nothing.
use Rattle.std.specs.Prelude.{ℕ, ◌-◌, ◌^◌, ◌≡◌, List, [], ◌∷◌, ◌++◌, take, Result, Ok, Err}
use Rattle.word.specs.Arithmetic.{sum_word, carry_word, difference_word, borrow_word, high_word, low_word}
use Rattle.shift.specs.Variant.{shift_word}
use Rattle.shift.specs.declared.ShiftVariant.TheVariants.{Sar, Sll32, Sra32}
use Rattle.bytecode.specs.Instruction.{make}
use Rattle.bytecode.specs.Encode.{encode}
use Rattle.bytecode.specs.Parse.{Parsed, whole, refused, parse}
use Rattle.builder.specs.Call.{laid, band, bxor_multi}
use Rattle.accept.specs.Check.{Verdict, accepted, refusal, check_of}
use Rattle.report.specs.Told.{Told as Said, stripe_values, raised_told, joined_told}
use Rattle.report.specs.Join.{raised, joined}
use Rattle.report.specs.declared.BatchPosition.{BatchPosition}
use Rattle.report.specs.declared.Report.{Report}
use Rattle.report.specs.declared.Report.TheVariants as B
use Rattle.refusal.specs.declared.Refusal.{Refusal}
use Rattle.fill.specs.Run.{Answer, reports, refuses, Call, call, answer_of, buffer_of}
use Rattle.scratch.specs.Answer.{Told, slots_after}
use Rattle.scratch.specs.Answer as Slots
use Rattle.scratch.specs.declared.Policy.TheVariants.{Pooled}

-- a row: what the definitions give, and what the document says
pub record Row : Type 0 where
  pub given : List ℕ
  pub said : List ℕ

infix 70 ◌is◌
abbrev pub ◌is◌ : List ℕ → List ℕ → Row
◌is◌ given said = record { given = given; said = said }

abbrev pub ones : ℕ
ones = 2 ^ 64 - 1

-- ---- answers as numbers

-- a verdict by its number and offset, 0 and 0 where it is acceptance
abbrev pub verdict_of : Verdict → List ℕ
verdict_of accepted = 0 ∷ 0 ∷ []
verdict_of (refusal number offset) = number ∷ offset ∷ []

abbrev pub parsed_as : Parsed → List ℕ
parsed_as (whole i n) = 0 ∷ n ∷ []
parsed_as (refused number offset) = number ∷ offset ∷ []

abbrev pub pool : Told → List ℕ
pool t = t.number ∷ t.length ∷ t.peak ∷ []

-- a run's answer: 0 and the report's position, total and kept, or the refusal's number and offset
abbrev pub ran : Answer → List ℕ
ran (reports r) = 0 ∷ stripe_values r
ran (refuses number offset) = number ∷ offset ∷ []

abbrev pub numbers_of : Said → List ℕ
numbers_of t = t.number ∷ t.values

-- a run's report raised by its stripe's start; clean where either is refused, which a row of its own shows not to be
abbrev pub report_of : Result (Report BatchPosition) Refusal → Report BatchPosition
report_of (Ok b) = b
report_of (Err r) = B.Clean

abbrev pub raised_run : ℕ → Answer → Result (Report BatchPosition) Refusal
raised_run start (reports r) = raised start r
raised_run start (refuses number offset) = raised start B.Clean

-- ---- the table

-- Band 5, 1, 2; BxorMulti 7 with no sources
abbrev pub band_bytes : List ℕ
band_bytes = 0x01 ∷ 5 ∷ 0 ∷ 0 ∷ 0 ∷ 1 ∷ 0 ∷ 0 ∷ 0 ∷ 2 ∷ 0 ∷ 0 ∷ 0 ∷ []

abbrev pub no_sources : List ℕ
no_sources = 0x06 ∷ 7 ∷ 0 ∷ 0 ∷ 0 ∷ 0 ∷ 0 ∷ 0 ∷ 0 ∷ []

-- a shift of register 1 into register 0
abbrev pub shift_bytes : (variant amount : ℕ) → List ℕ
shift_bytes variant amount = encode (make 0x10 (0 ∷ []) (1 ∷ []) (variant ∷ amount ∷ []))

-- rows 0 = (0,0,9,0) and 1 = (0,4,0,0), AssertZero 0 path 11, AssertZero 1 path 12, cap 1; a stripe of them
abbrev pub zeros : (first count : ℕ) → Call
zeros first count =
    call (encode (make 0x62 [] (0 ∷ []) (11 ∷ [])) ++ encode (make 0x62 [] (1 ∷ []) (12 ∷ []))) 2 4 first count 1
    (0 ∷ 0 ∷ 9 ∷ 0 ∷ 0 ∷ 4 ∷ 0 ∷ 0 ∷ []) (7 ∷ 7 ∷ 7 ∷ [])

abbrev pub left : Result (Report BatchPosition) Refusal
left = raised_run 0 (answer_of (zeros 0 2))

abbrev pub right : Result (Report BatchPosition) Refusal
right = raised_run 2 (answer_of (zeros 2 2))

abbrev pub table : List Row
table =
    -- 3 + 1: sum 4, carries 3
    (sum_word 64 3 1 0 ∷ carry_word 64 3 1 0 ∷ []) is (4 ∷ 3 ∷ []) ∷
    -- all ones + 1: sum 0, carries all ones
    (sum_word 64 ones 1 0 ∷ carry_word 64 ones 1 0 ∷ []) is (0 ∷ ones ∷ []) ∷
    -- 0 - 1: difference and borrows all ones
    (difference_word 64 0 1 0 ∷ borrow_word 64 0 1 0 ∷ []) is (ones ∷ ones ∷ []) ∷
    -- all ones squared: high 2^64 - 2, low 1
    (high_word 64 ones ones ∷ low_word 64 ones ones ∷ []) is ((2 ^ 64 - 2) ∷ 1 ∷ []) ∷
    -- Sar of 2^63 by 63: all ones. Amount 64: BadShift
    (shift_word Sar 63 (2 ^ 63) ∷ []) is (ones ∷ []) ∷
    verdict_of (check_of (shift_bytes 2 63) 2) is (0 ∷ 0 ∷ []) ∷
    verdict_of (check_of (shift_bytes 2 64) 2) is (7 ∷ 0 ∷ []) ∷
    -- Sll32 of 0x8000000080000001 by 1: 2. Amount 32: BadShift
    (shift_word Sll32 1 0x8000000080000001 ∷ []) is (2 ∷ []) ∷
    verdict_of (check_of (shift_bytes 4 31) 2) is (0 ∷ 0 ∷ []) ∷
    verdict_of (check_of (shift_bytes 4 32) 2) is (7 ∷ 0 ∷ []) ∷
    -- Sra32 of 0x800000007FFFFFFF by 31: 0xFFFFFFFF00000000
    (shift_word Sra32 31 0x800000007FFFFFFF ∷ []) is (0xFFFFFFFF00000000 ∷ []) ∷
    -- Band 5, 1, 2 emits 01 05000000 01000000 02000000
    encode (laid (band 5 1 2)) is band_bytes ∷
    -- BxorMulti 7 with no sources: 06 07000000 00000000. Last byte missing: Truncated
    encode (laid (bxor_multi 7 [])) is no_sources ∷
    parsed_as (parse no_sources) is (0 ∷ 9 ∷ []) ∷
    parsed_as (parse (take 8 no_sources)) is (6 ∷ 0 ∷ []) ∷
    verdict_of (check_of (take 8 no_sources) 8) is (6 ∷ 0 ∷ []) ∷
    -- position 1, total 1, record 0x620000010000000C, 4, 0
    ran (answer_of (zeros 0 4)) is (0 ∷ 1 ∷ 1 ∷ 1 ∷ []) ∷
    buffer_of (zeros 0 4) is (0x620000010000000C ∷ 4 ∷ 0 ∷ []) ∷
    -- cut after column 1, the right stripe reports local 0, batch 2; joined, 1
    ran (answer_of (zeros 2 2)) is (0 ∷ 0 ∷ 1 ∷ 1 ∷ []) ∷
    numbers_of (raised_told right) is (0 ∷ 2 ∷ 1 ∷ 1 ∷ []) ∷
    numbers_of (raised_told left) is (0 ∷ 1 ∷ 1 ∷ 1 ∷ []) ∷
    numbers_of (joined_told (joined (report_of left) (report_of right))) is (0 ∷ 1 ∷ 1 ∷ 1 ∷ 1 ∷ []) ∷
    numbers_of (joined_told (joined (report_of right) (report_of left))) is (0 ∷ 2 ∷ 1 ∷ 1 ∷ 1 ∷ []) ∷
    -- Pooled, all wires marked: gates {0},{0,1},{1,2},{2}: slots 0,1,0, length 2
    slots_after 3 (1 ∷ 3 ∷ 5 ∷ 6 ∷ []) (0 ∷ 0 ∷ 1 ∷ 1 ∷ 2 ∷ 2 ∷ []) (1 ∷ 1 ∷ 1 ∷ []) (9 ∷ 9 ∷ 9 ∷ []) Pooled is (0 ∷ 1 ∷ 0 ∷ []) ∷
    pool (Slots.answer_of 3 (1 ∷ 3 ∷ 5 ∷ 6 ∷ []) (0 ∷ 0 ∷ 1 ∷ 1 ∷ 2 ∷ 2 ∷ []) (1 ∷ 1 ∷ 1 ∷ []) (9 ∷ 9 ∷ 9 ∷ []) Pooled) is (0 ∷ 2 ∷ 2 ∷ []) ∷
    -- gates {1,0},{2}: slots 1,0,0
    slots_after 3 (2 ∷ 3 ∷ []) (1 ∷ 0 ∷ 2 ∷ []) (1 ∷ 1 ∷ 1 ∷ []) (9 ∷ 9 ∷ 9 ∷ []) Pooled is (1 ∷ 0 ∷ 0 ∷ []) ∷
    []

-- every row holds
abbrev pub Holds : List Row → Type 0
Holds [] = Unit {0}
Holds (row ∷ rows) = (row.given ≡ row.said) × Holds rows
