-- Document 01, "Numbered refusals": what the program check answers. Assumes nothing.
use Rattle.std.specs.Prelude.{ℕ, ◌+◌, List, [], ◌∷◌, Bool, false, cond, not, ◌&&◌, ◌||◌, eqb, ltb, leb, length, get_or, drop, Result, Ok, Err}
use Rattle.refusal.specs.Number.{number_of}
use Rattle.refusal.specs.declared.Refusal.{Refusal}
use Rattle.refusal.specs.declared.Refusal.TheVariants as R
use Rattle.refusal.specs.declared.RefusedAt.{RefusedAt}
use Rattle.common.specs.Lists.{member, all_below}
use Rattle.shift.specs.Variant.{bad_amount}
use Rattle.bytecode.specs.Instruction.{Inst}
use Rattle.bytecode.specs.Parse.{Parsed, whole, refused, parse}

-- accepted, or a refusal by its number with an offset from the program's start
pub data Verdict : Type 0 where
  accepted : Verdict
  refusal : ℕ → ℕ → Verdict

-- what each case of the check's answer says
abbrev pub verdict : Result Unit RefusedAt → Verdict
verdict (Ok _) = accepted
verdict (Err r) = refusal (number_of r.refusal) r.offset

-- ---- what is wrong with a whole instruction

-- 7, beside the variant, which the decoder has judged
unfoldable pub shift_bad_amount : Inst → Bool
shift_bad_amount i = eqb i.op 0x10 && bad_amount (get_or i.numbers 0 0) (get_or i.numbers 1 0)

-- the hints that there are, by id, dimensions, input count and output count
abbrev pub hint_listed : ℕ → List ℕ → ℕ → ℕ → Bool
hint_listed id [] ins outs = eqb id 1 && (eqb ins 2 && eqb outs 2) || eqb id 2 && (eqb ins 1 && eqb outs 1)
hint_listed id (k ∷ []) ins outs = eqb id 3 && (leb 1 k && leb k 8 && (eqb ins k && eqb outs k))
hint_listed id (k ∷ l ∷ ks) ins outs = false

-- 8
unfoldable pub bad_hint : Inst → Bool
bad_hint i =
    eqb i.op 0x80
    && not (hint_listed (get_or i.numbers 0 0) (drop 1 i.numbers) (length i.sources) (length i.dests))

-- 9: a register is not below rows
unfoldable pub bad_register : ℕ → Inst → Bool
bad_register rows i = not (all_below rows i.dests && all_below rows i.sources)

-- 10: a destination equals a source or another destination
abbrev pub overlap : List ℕ → List ℕ → Bool
overlap [] ss = false
overlap (d ∷ ds) ss = member d ss || (member d ds || overlap ds ss)

-- the refusal where the test holds, pointing at the opcode byte; else what follows
abbrev pub refuse : Bool → Refusal → Verdict → Verdict
refuse t r v = cond t (refusal (number_of r) 0) v

-- 7 to 10 in number order
unfoldable pub judged : ℕ → Inst → Verdict
judged rows i =
    refuse (shift_bad_amount i) R.BadShift
    (refuse (bad_hint i) R.BadHint
    (refuse (bad_register rows i) R.BadRegister
    (refuse (overlap i.dests i.sources) R.Overlap
    accepted)))

-- ---- a program

-- the first verdict stands if it is a refusal, its offset counted from where the part starts; else the second
abbrev pub and_then : Verdict → ℕ → Verdict → Verdict
and_then accepted at v = v
and_then (refusal r o) at v = refusal r (at + o)

-- the instruction at the start of a part of the program, and then what is left after it, which `more` judges
abbrev pub first_then : ℕ → Parsed → ℕ → (ℕ → Verdict) → Verdict
first_then rows (refused r o) at more = refusal r (at + o)
first_then rows (whole i n) at more = and_then (judged rows i) at (more n)

-- at most k instructions of a part that starts at `at`. Each takes a byte or more, so as many turns as bytes are enough
unfoldable pub walk_from : ℕ → ℕ → List ℕ → ℕ → Verdict
walk_from ℕ.zero rows s at = accepted
walk_from (ℕ.suc k) rows s at =
    cond (eqb (length s) 0) accepted (first_then rows (parse s) at (λ n. walk_from k rows (drop n s) (at + n)))

-- 1, then 3, then the instructions in order
unfoldable pub check_of : List ℕ → ℕ → Verdict
check_of s rows =
    cond (ltb 8192 rows) (refusal (number_of R.BadShape) 0)
    (cond (ltb 65536 (length s)) (refusal (number_of R.TooLong) 0) (walk_from (length s) rows s 0))
