-- k emits from a fresh builder, none refused, give count k, and a program of those k instructions up to the state's length. Assumes nothing.
use Prim.Native.Nat.{ℕ}
use mathlib.Core.Path.{◌≡◌, refl, sym, ap, ap₂, ◌∙◌}
use mathlib.Core.List.{List, [], ◌∷◌, ◌++◌, map, append-nil}
use native.Mathlib.Omega.{arith}
use lib.ListN.{length, take, length-append}
use Rattle.std.specs.Prelude.{Result}
use Rattle.bytecode.specs.Instruction.{Inst}
use Rattle.bytecode.specs.Encode.{encode}
use Rattle.bytecode.specs.Program.{bytes_of, program_of}
use Rattle.bytecode.proofs.Encodings.{AllFormed, program_of_lem, bytes-append, formed-append}
use Rattle.builder.specs.Call.{Call, laid}
use Rattle.builder.specs.Emit.{done, said, fresh, Emits}
use Rattle.builder.specs.declared.BytecodeBuilder.{BytecodeBuilder}
use Rattle.builder.specs.declared.Unemitted.{Unemitted}
use Rattle.builder.proofs.Calls.{Typed, call_formed}
use Rattle.builder.proofs.RoundTrips.{emitted_laid, laid_front}

-- the state and the buffer after calls one after the other, from `new` and any buffer on, each as the emitters' contracts say
pub data Emitting : List Call → BytecodeBuilder → List ℕ → Type 0 where
  begun : (s : List ℕ) → Emitting [] fresh s
  then : {cs : List Call} {b : BytecodeBuilder} {s : List ℕ} → Emitting cs b s
      → (c : Call) (r : Result BytecodeBuilder Unemitted) (b' : BytecodeBuilder) (after : List ℕ) → Typed c → Emits c b s r after → said r ≡ done b'
      → Emitting (cs ++ (c ∷ [])) b' after

pub record Built (cs : List Call) (b : BytecodeBuilder) (s : List ℕ) : Type 0 where
  pub count : b.count ≡ length cs
  pub formed : AllFormed (map laid cs)
  pub bytes : take b.len s ≡ bytes_of (map laid cs)

map-append : (cs ds : List Call) → map laid (cs ++ ds) ≡ map laid cs ++ map laid ds
map-append [] ds = refl
map-append (c ∷ cs) ds = ap (λ (is : List Inst). laid c ∷ is) (map-append cs ds)

pub built : {cs : List Call} {b : BytecodeBuilder} {s : List ℕ} → Emitting cs b s → Built cs b s
built (begun s) = record { count = refl; formed = tt; bytes = refl }
built (then {cs} {b} {s} e c r b' after t x d) =
    let g = built e in
    let l = emitted_laid (laid c) b s r after b' x d in
    let f = call_formed c t l.variant l.dimension (omega (arith, l.room)) in
    let m = map-append cs (c ∷ []) in
    record {
      count = ap (λ (y : BytecodeBuilder). y.count) l.state ∙ omega (arith, g.count, length-append cs (c ∷ []));
      formed = rw m (formed-append (map laid cs) (laid c ∷ []) g.formed (f, tt));
      bytes =
          laid_front (laid c) b s b' after l ∙ ap₂ ◌++◌ g.bytes (sym (append-nil (encode (laid c))))
          ∙ sym (ap bytes_of m ∙ bytes-append (map laid cs) (laid c ∷ []));
    }

-- the program that was built
pub built_program : {cs : List Call} {b : BytecodeBuilder} {s : List ℕ} → Emitting cs b s
    → (b.count ≡ length cs) × (program_of (take b.len s) ≡ map laid cs)
built_program {cs} {b} {s} e = let g = built e in (g.count, ap program_of g.bytes ∙ program_of_lem (map laid cs) g.formed)
