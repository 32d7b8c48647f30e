-- Document 01, "Instruction layout": an instruction's bytes, and which instructions have bytes of their own. Assumes nothing.
use Rattle.std.specs.Prelude.{ℕ, ◌^◌, ◌≤◌, ◌<◌, ◌≡◌, List, [], ◌∷◌, ◌++◌, true, length, get_or, take, drop}
use Rattle.common.specs.Lists.{all_below}
use Rattle.bytecode.specs.Opcode.{shape_of}
use Rattle.bytecode.specs.Layout.{les}
use Rattle.bytecode.specs.Instruction.{Inst}
use Rattle.bytecode.specs.declared.opcode.Shape.{Shape}
use Rattle.bytecode.specs.declared.opcode.Shape.TheVariants as S

-- a list with its length before it
abbrev pub counted : List ℕ → List ℕ
counted xs = length xs ∷ xs

-- the bytes after the opcode, in the order of the emitters' fields
abbrev pub fields_as : Shape → Inst → List ℕ
fields_as S.Unknown i = []
fields_as S.NotCarried i = []
fields_as (S.Fixed d n p) i = les (i.dests ++ (i.sources ++ i.numbers))
fields_as S.Shift i = les (i.dests ++ i.sources) ++ i.numbers
fields_as S.Many i = les (i.dests ++ counted i.sources)
fields_as S.Hint i =
    les
    (take 1 i.numbers
    ++ (counted (drop 1 i.numbers) ++ (length i.sources ∷ length i.dests ∷ (i.sources ++ i.dests))))

abbrev pub encode : Inst → List ℕ
encode i = i.op ∷ fields_as (shape_of i.op) i

-- ---- the instructions that the layout can hold

-- as many registers and numbers as the shape has, a shift's two numbers bytes and its variant one of the eight, counts that fit their fields
abbrev pub FormedAs : Shape → Inst → Type 0
FormedAs S.Unknown i = ⊥
FormedAs S.NotCarried i = ⊥
FormedAs (S.Fixed d n p) i = (length i.dests ≡ d) × (length i.sources ≡ n) × (length i.numbers ≡ p)
FormedAs S.Shift i =
    (length i.dests ≡ 1) × (length i.sources ≡ 1) × (length i.numbers ≡ 2) × (get_or i.numbers 0 0 ≤ 7) × (all_below 256 i.numbers ≡ true)
FormedAs S.Many i = (length i.dests ≡ 1) × (i.numbers ≡ []) × (length i.sources < 2 ^ 32)
FormedAs S.Hint i =
    (0 < length i.numbers) × (length i.numbers ≤ 2 ^ 32) × (length i.sources < 2 ^ 32) × (length i.dests < 2 ^ 32)

-- a carried opcode with the fields that its shape asks for, each register and number within a u32
pub record Formed (i : Inst) : Type 0 where
  pub shape : FormedAs (shape_of i.op) i
  pub dests : all_below (2 ^ 32) i.dests ≡ true
  pub sources : all_below (2 ^ 32) i.sources ≡ true
  pub numbers : all_below (2 ^ 32) i.numbers ≡ true
