-- A program: the instructions that bytes hold one after the other, and the bytes of instructions. Assumes nothing.
use Rattle.std.specs.Prelude.{ℕ, List, [], ◌∷◌, ◌++◌, length, drop}
use Rattle.bytecode.specs.Instruction.{Inst}
use Rattle.bytecode.specs.Encode.{encode}
use Rattle.bytecode.specs.Parse.{Parsed, whole, refused, parse}

-- the encodings of instructions, one after the other
abbrev pub bytes_of : List Inst → List ℕ
bytes_of [] = []
bytes_of (i ∷ is) = encode i ++ bytes_of is

abbrev pub on_whole : Parsed → (Inst → ℕ → List Inst) → List Inst
on_whole (whole i n) f = f i n
on_whole (refused r at) f = []

-- at most k instructions from the start of the bytes on, up to the first that is refused
unfoldable pub program_from : ℕ → List ℕ → List Inst
program_from ℕ.zero s = []
program_from (ℕ.suc k) s = on_whole (parse s) (λ i n. i ∷ program_from k (drop n s))

-- an instruction takes a byte or more, so as many turns as bytes are enough
unfoldable pub program_of : List ℕ → List Inst
program_of s = program_from (length s) s
