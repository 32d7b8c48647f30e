-- Document 01, "Assertions and reports": a record and its words; the lowest failing column; what a report says of it, and what the buffer holds.
use Rattle.std.specs.Prelude.{ℕ, zero, suc, ◌+◌, ◌*◌, ◌^◌, min, List, [], ◌∷◌, ◌++◌, length, take, drop}
use Rattle.report.specs.Position.{local}
use Rattle.report.specs.declared.record.Failure.{Failure}
use Rattle.report.specs.declared.LocalPosition.{LocalPosition}
use Rattle.report.specs.declared.Report.{Report}
use Rattle.report.specs.declared.Report.TheVariants.{Clean, Failing}

-- most significant first: opcode in 8 bits, instruction number in 24, path spec in 32
abbrev pub packed : ℕ → ℕ → ℕ → ℕ
packed opcode number path = (opcode * 2 ^ 24 + number) * 2 ^ 32 + path

-- the words of a record
abbrev pub words_of : Failure → List ℕ
words_of f = f.head ∷ f.one ∷ f.two ∷ []

abbrev pub words : List Failure → List ℕ
words [] = []
words (f ∷ fs) = words_of f ++ words fs

-- ---- the lowest failing column

-- a position and all the violations there
pub data Lowest : Type 0 where
  clean : Lowest
  at : ℕ → List Failure → Lowest

abbrev pub or_else : Lowest → Lowest → Lowest
or_else clean y = y
or_else (at p fs) y = at p fs

abbrev pub fails_at : ℕ → List Failure → Lowest
fails_at p [] = clean
fails_at p (f ∷ fs) = at p (f ∷ fs)

-- the lowest of the positions 0 .. n - 1 that has violations, v giving those of each
unfoldable pub lowest : (ℕ → List Failure) → ℕ → Lowest
lowest v zero = clean
lowest v (suc n) = or_else (lowest v n) (fails_at n (v n))

-- ---- what is answered of it

-- total counts every violation of that column; kept is the smaller of total and cap
abbrev pub report_of : ℕ → Lowest → Report LocalPosition
report_of cap clean = Clean
report_of cap (at p fs) = Failing (local p) (length fs) (min (length fs) cap)

-- the kept records
abbrev pub kept : ℕ → Lowest → List Failure
kept cap clean = []
kept cap (at p fs) = take cap fs

-- the report buffer: the kept records, and past them what was there
abbrev pub records_of : ℕ → Lowest → List ℕ → List ℕ
records_of cap l buffer = words (kept cap l) ++ drop (length (words (kept cap l))) buffer
