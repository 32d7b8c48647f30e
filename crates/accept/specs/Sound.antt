-- What an accepted program is, said without the check: the law that the two are one is `accepted_exactly` of proofs/. Assumes nothing.
use Rattle.std.specs.Prelude.{ℕ, ◌≤◌, ◌≡◌, List, [], ◌∷◌, true, false, length, get_or, drop}
use Rattle.common.specs.Lists.{member, all_below}
use Rattle.bytecode.specs.Instruction.{Inst}
use Rattle.bytecode.specs.Encode.{Formed}
use Rattle.bytecode.specs.Program.{bytes_of}

-- an amount that fits its variant: at most 63 on the word (variants 0 to 3), at most 31 on each half (4 to 7)
abbrev pub FittingAmount : ℕ → ℕ → Type 0
FittingAmount variant amount = (amount ≤ 63) × (4 ≤ variant → amount ≤ 31)

-- the listed hints, by id, dimensions, input count and output count
pub data Listed : ℕ → List ℕ → ℕ → ℕ → Type 0 where
  divide : Listed 1 [] 2 2
  leading_zeros : Listed 2 [] 1 1
  mirror : (k : ℕ) → 1 ≤ k → k ≤ 8 → Listed 3 (k ∷ []) k k

-- no number of the list stands in it twice
abbrev pub Distinct : List ℕ → Type 0
Distinct [] = Unit
Distinct (x ∷ xs) = (member x xs ≡ false) × Distinct xs

-- no number of the first list stands in the second
abbrev pub Apart : List ℕ → List ℕ → Type 0
Apart [] ss = Unit
Apart (d ∷ ds) ss = (member d ss ≡ false) × Apart ds ss

pub record Sound (rows : ℕ) (i : Inst) : Type 0 where
  pub formed : Formed i
  pub amount : i.op ≡ 0x10 → FittingAmount (get_or i.numbers 0 0) (get_or i.numbers 1 0)
  pub hint : i.op ≡ 0x80 → Listed (get_or i.numbers 0 0) (drop 1 i.numbers) (length i.sources) (length i.dests)
  pub dests_below : all_below rows i.dests ≡ true
  pub sources_below : all_below rows i.sources ≡ true
  pub apart : Apart i.dests i.sources
  pub distinct : Distinct i.dests

abbrev pub AllSound : ℕ → List Inst → Type 0
AllSound rows [] = Unit
AllSound rows (i ∷ is) = Sound rows i × AllSound rows is

-- rows and length within their limits, and the bytes the encodings, one after the other, of sound instructions
pub record Acceptable (s : List ℕ) (rows : ℕ) : Type 0 where
  pub few_rows : rows ≤ 8192
  pub short : length s ≤ 65536
  pub program : List Inst
  pub bytes : s ≡ bytes_of program
  pub sound : AllSound rows program
