-- The encodings of formed instructions, one after the other, hold those instructions. Assumes nothing.
use Prim.Native.Nat.{ℕ}
use mathlib.Core.Path.{◌≡◌, refl, sym, ap, ◌∙◌}
use mathlib.Core.List.{List, [], ◌∷◌, ◌++◌, append_assoc}
use lib.ListN.{length}
use lib.Seq.{drop-append_seam}
use Rattle.bytecode.specs.Instruction.{Inst}
use Rattle.bytecode.specs.Encode.{encode, Formed}
use Rattle.bytecode.specs.Program.{bytes_of, program_of}
use Rattle.bytecode.proofs.RoundTrip.{round_trip}
use Rattle.bytecode.proofs.Programs.{program_next, program_empty}

abbrev pub AllFormed : List Inst → Type 0
AllFormed [] = Unit
AllFormed (i ∷ is) = Formed i × AllFormed is

pub program_of_lem : (is : List Inst) → AllFormed is → program_of (bytes_of is) ≡ is
program_of_lem [] f = program_empty [] refl
program_of_lem (i ∷ is) f =
    program_next (encode i ++ bytes_of is) i (length (encode i)) (round_trip i (bytes_of is) f.0)
    ∙ ap (λ (l : List ℕ). i ∷ program_of l) (drop-append_seam (encode i) (bytes_of is)) ∙ ap (λ (js : List Inst). i ∷ js) (program_of_lem is f.1)

pub bytes-append : (is js : List Inst) → bytes_of (is ++ js) ≡ bytes_of is ++ bytes_of js
bytes-append [] js = refl
bytes-append (i ∷ is) js = ap (λ (l : List ℕ). encode i ++ l) (bytes-append is js) ∙ sym (append_assoc (encode i) (bytes_of is) (bytes_of js))

pub formed-append : (is js : List Inst) → AllFormed is → AllFormed js → AllFormed (is ++ js)
formed-append [] js f g = g
formed-append (i ∷ is) js f g = (f.0, formed-append is js f.1 g)
