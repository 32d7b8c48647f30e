-- Document 01's table of refusals in its words: what the program check gives each number for. The law that it gives them exactly then is
-- `refused_exactly` of proofs/. Assumes nothing.
use Rattle.std.specs.Prelude.{ℕ, ◌≤◌, ◌<◌, ◌≡◌, ◌⊎◌, List, ◌++◌, true, length, get_or, drop}
use Rattle.common.specs.Order.{Lowest}
use Rattle.common.specs.Lists.{member}
use Rattle.bytecode.specs.Instruction.{Inst}
use Rattle.bytecode.specs.Parse.{read}
use Rattle.bytecode.specs.Program.{bytes_of}
use Rattle.bytecode.specs.Faults.{DecoderFault}
use Rattle.accept.specs.Sound.{Listed, AllSound}

-- over 63 for the variants 0 to 3, over 31 for the variants 4 to 7
abbrev pub AmountOver : ℕ → ℕ → Type 0
AmountOver variant amount = ((variant ≤ 3) × (63 < amount)) ⊎ ((4 ≤ variant) × (31 < amount))

-- a destination equals a source or another destination
pub data Collision (ds ss : List ℕ) : Type 0 where
  with_source : (j k : ℕ) → j < length ds → k < length ss → get_or ds j 0 ≡ get_or ss k 0 → Collision ds ss
  with_dest : (j k : ℕ) → j < k → k < length ds → get_or ds j 0 ≡ get_or ds k 0 → Collision ds ss

-- what each number is given for, of the instruction at the start of the bytes: beside the decoder's, 7 for the amount, and 8 to 10
pub data Fault (rows : ℕ) (s : List ℕ) : ℕ → Type 0 where
  decoder : {k : ℕ} → DecoderFault s k → Fault rows s k
  bad_amount_byte : get_or s 0 0 ≡ 0x10 → AmountOver (get_or s 9 0) (get_or s 10 0) → Fault rows s 7
  not_listed : get_or s 0 0 ≡ 0x80
      → (Listed (get_or (read s).numbers 0 0) (drop 1 (read s).numbers) (length (read s).sources) (length (read s).dests) → ⊥)
      → Fault rows s 8
  not_below : (x : ℕ) → member x ((read s).dests ++ (read s).sources) ≡ true → rows ≤ x → Fault rows s 9
  collides : Collision (read s).dests (read s).sources → Fault rows s 10

-- the first bad instruction of the program stands at `at`: before it sound instructions, and within it no lower number is due
pub record FirstBad (s : List ℕ) (rows k at : ℕ) : Type 0 where
  pub few_rows : rows ≤ 8192
  pub short : length s ≤ 65536
  pub before : List Inst
  pub sound : AllSound rows before
  pub rest : List ℕ
  pub more : 0 < length rest
  pub bytes : s ≡ bytes_of before ++ rest
  pub offset : at ≡ length (bytes_of before)
  pub fault : Lowest (Fault rows rest) k

-- what the check refuses, by number and offset: 1, then 3, then the first bad instruction
pub data Refused (s : List ℕ) (rows : ℕ) : ℕ → ℕ → Type 0 where
  bad_shape : 8192 < rows → Refused s rows 1 0
  too_long : rows ≤ 8192 → 65536 < length s → Refused s rows 3 0
  bad_instruction : {k at : ℕ} → FirstBad s rows k at → Refused s rows k at
