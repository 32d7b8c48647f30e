-- What is encoded are bytes, nine of them at least. Assumes nothing.
use Prim.Native.Nat.{ℕ, suc, ◌+◌, ◌*◌, ◌/◌, ◌%◌, ◌≤◌, ◌<◌}
use mathlib.Core.Path.{◌≡◌, refl}
use mathlib.Core.List.{List, [], ◌∷◌, ◌++◌}
use mathlib.Core.Bool.{Bool, true}
use native.Mathlib.Omega.{arith}
use native.Mathlib.Nat.{mod-lt}
use borrow.Author.Tests.{ltb-true, eqb-true}
use lib.Dec.{ltb, lit<}
use lib.ListN.{length, take, drop, length-append}
use Rattle.common.specs.Lists.{all_below}
use Rattle.common.proofs.Below.{below_head, below_tail, below-cons, below-append}
use Rattle.bytecode.specs.Opcode.{table, shape_of}
use Rattle.bytecode.specs.Layout.{AreBytes, le, les}
use Rattle.bytecode.specs.Instruction.{Inst}
use Rattle.bytecode.specs.Encode.{counted, encode, fields_as, FormedAs, Formed}
use Rattle.bytecode.specs.declared.opcode.Shape.{Shape}
use Rattle.bytecode.specs.declared.opcode.Shape.TheVariants.{Unknown, NotCarried, Fixed, Shift, Many, Hint}
use Rattle.bytecode.proofs.Tables.{look_up, named, opcode_named}
use Rattle.bytecode.proofs.Words.{length-les}

-- bytes as a test, and place by place
pub bytes_at : (s : List ℕ) → all_below 256 s ≡ true → AreBytes s
bytes_at [] e at = lit< tt
bytes_at (x ∷ s) e ℕ.zero = below_head 256 x s e
bytes_at (x ∷ s) e (suc at) = bytes_at s (below_tail 256 x s e) at

le_bytes : (n x : ℕ) → all_below 256 (le n x) ≡ true
le_bytes ℕ.zero x = refl
le_bytes (suc n) x = below-cons 256 (x % 256) (le n (x / 256)) (mod-lt x (lit< tt)) (le_bytes n (x / 256))

les_bytes : (xs : List ℕ) → all_below 256 (les xs) ≡ true
les_bytes [] = refl
les_bytes (x ∷ xs) = below-append 256 (le 4 x) (les xs) (le_bytes 4 x) (les_bytes xs)

named_byte : (op : ℕ) (sh : Shape) (i : Inst) → named op sh ≡ true → FormedAs sh i → op < 256
named_byte op Unknown i e f = absurd f
named_byte op NotCarried i e f = absurd f
named_byte op (Fixed d n p) i e f = ltb-true op 256 e
named_byte op Shift i e f = omega (arith, eqb-true op 0x10 e)
named_byte op Many i e f = omega (arith, eqb-true op 0x06 e)
named_byte op Hint i e f = omega (arith, eqb-true op 0x80 e)

fields_bytes : (sh : Shape) (i : Inst) → FormedAs sh i → all_below 256 (fields_as sh i) ≡ true
fields_bytes Unknown i f = absurd f
fields_bytes NotCarried i f = absurd f
fields_bytes (Fixed d n p) i f = les_bytes (i.dests ++ (i.sources ++ i.numbers))
fields_bytes Shift i f = below-append 256 (les (i.dests ++ i.sources)) i.numbers (les_bytes (i.dests ++ i.sources)) f.4
fields_bytes Many i f = les_bytes (i.dests ++ counted i.sources)
fields_bytes Hint i f = les_bytes (take 1 i.numbers ++ (counted (drop 1 i.numbers) ++ (length i.sources ∷ length i.dests ∷ (i.sources ++ i.dests))))

encoded_below : (i : Inst) → Formed i → all_below 256 (encode i) ≡ true
encoded_below i f =
    below-cons 256 i.op (fields_as (shape_of i.op) i) (named_byte i.op (shape_of i.op) i (opcode_named i.op) f.shape)
    (fields_bytes (shape_of i.op) i f.shape)

pub encoded_bytes : (i : Inst) → Formed i → AreBytes (encode i)
encoded_bytes i f = bytes_at (encode i) (encoded_below i f)

-- ---- no instruction is shorter than 9 bytes

abbrev long : ℕ → Shape → Bool
long op Unknown = true
long op NotCarried = true
long op (Fixed d n p) = ltb 1 (d + n + p)
long op Shift = true
long op Many = true
long op Hint = true

fields_long : (op : ℕ) (sh : Shape) (i : Inst) → long op sh ≡ true → FormedAs sh i → 8 ≤ length (fields_as sh i)
fields_long op Unknown i e f = absurd f
fields_long op NotCarried i e f = absurd f
fields_long op (Fixed d n p) i e f = omega (arith, ltb-true 1 (d + n + p) e, length-les (i.dests ++ (i.sources ++ i.numbers)), length-append i.dests (i.sources ++ i.numbers), length-append i.sources i.numbers, f)
fields_long op Shift i e f = omega (arith, length-append (les (i.dests ++ i.sources)) i.numbers, length-les (i.dests ++ i.sources), length-append i.dests i.sources, f)
fields_long op Many i e f = omega (arith, length-les (i.dests ++ counted i.sources), length-append i.dests (counted i.sources), f)
fields_long op Hint i e f =
    let a = take 1 i.numbers in
    let b = length i.sources ∷ length i.dests ∷ (i.sources ++ i.dests) in
    omega (arith, length-les (a ++ (counted (drop 1 i.numbers) ++ b)), length-append a (counted (drop 1 i.numbers) ++ b), length-append (counted (drop 1 i.numbers)) b)

pub nine_bytes : (i : Inst) → Formed i → 9 ≤ length (encode i)
nine_bytes i f = omega (arith, fields_long i.op (shape_of i.op) i (look_up long (λ op. refl) table refl i.op) f.shape)

-- an opcode byte and four bytes for each register, at least
fields_registers : (sh : Shape) (i : Inst) → FormedAs sh i → 4 * (length i.dests + length i.sources) ≤ length (fields_as sh i)
fields_registers Unknown i f = absurd f
fields_registers NotCarried i f = absurd f
fields_registers (Fixed d n p) i f = omega (arith, length-les (i.dests ++ (i.sources ++ i.numbers)), length-append i.dests (i.sources ++ i.numbers), length-append i.sources i.numbers)
fields_registers Shift i f = omega (arith, length-append (les (i.dests ++ i.sources)) i.numbers, length-les (i.dests ++ i.sources), length-append i.dests i.sources)
fields_registers Many i f = omega (arith, length-les (i.dests ++ counted i.sources), length-append i.dests (counted i.sources))
fields_registers Hint i f =
    let a = take 1 i.numbers in
    let b = length i.sources ∷ length i.dests ∷ (i.sources ++ i.dests) in
    omega (arith, length-les (a ++ (counted (drop 1 i.numbers) ++ b)), length-append a (counted (drop 1 i.numbers) ++ b), length-append (counted (drop 1 i.numbers)) b, length-append i.sources i.dests)

pub register_bytes : (i : Inst) → Formed i → 1 + 4 * (length i.dests + length i.sources) ≤ length (encode i)
register_bytes i f = omega (arith, fields_registers (shape_of i.op) i f.shape)
