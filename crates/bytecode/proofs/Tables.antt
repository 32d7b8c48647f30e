-- Laws of a table of opcodes: what the last arm of a `match` with a key for each line knows. Assumes nothing.
use Prim.Native.Nat.{ℕ}
use mathlib.Core.Path.{◌≡◌, refl, ap, ◌∙◌}
use mathlib.Core.Bool.{Bool, true, false, ◌&&◌}
use mathlib.Core.List.{List, [], ◌∷◌}
use lib.Dec.{eqb, ltb}
use borrow.Author.Tests.{ne_eqb, eq-eqb, eqb-true, eqb-false}
use Rattle.common.proofs.Bools.{both}
use Rattle.bytecode.specs.Opcode.{Line, line, table, lookup, shape_of}
use Rattle.bytecode.specs.Working.{Carried}
use Rattle.bytecode.specs.declared.opcode.Shape.{Shape}
use Rattle.bytecode.specs.declared.opcode.Shape.TheVariants.{Unknown, NotCarried, Fixed, Shift, Many, Hint}

-- two numbers are equal or not
pub settle {ℓ} : {G : Type ℓ} (a b : ℕ) → (a ≡ b → G) → ((a ≡ b → ⊥) → G) → G
settle {G = G} a b f g = go (eqb a b) refl
  where
    go : (t : Bool) → eqb a b ≡ t → G
    go true e = f (eqb-true a b e)
    go false e = g (eqb-false a b e)

-- what the last arm knows, in the form in which the borrow checker gives it
abbrev pub Rest : List Line → ℕ → Type 0 → Type 0
Rest [] op A = A
Rest (l ∷ ls) op A = Rest ls op (A × (op ≡ l.byte → ⊥))

-- the table then has no line for the byte
pub absent : (ls : List Line) (op : ℕ) (A : Type 0) → Rest ls op A → (lookup ls op ≡ Unknown) × A
absent [] op A r = (refl, r)
absent (l ∷ ls) op A r =
    let h = absent ls op (A × (op ≡ l.byte → ⊥)) r in
    (rw (ne_eqb op l.byte h.1.1) h.0, h.1.0)

-- the lines of the table that are carried
abbrev pub keep : Shape → ℕ → List Line → List Line
keep Unknown b ls = ls
keep NotCarried b ls = ls
keep (Fixed d n p) b ls = line b (Fixed d n p) ∷ ls
keep Shift b ls = line b Shift ∷ ls
keep Many b ls = line b Many ∷ ls
keep Hint b ls = line b Hint ∷ ls

abbrev pub carried_of : List Line → List Line
carried_of [] = []
carried_of (l ∷ ls) = keep l.shape l.byte (carried_of ls)

-- an opcode that is none of them is not carried
module _ (b : ℕ) (ls : List Line) (op : ℕ) (A : Type 0) (rec : (B : Type 0) → Rest (carried_of ls) op B → (Carried (lookup ls op) → ⊥) × B) where
  out : (sh : Shape) → (Carried sh → ⊥) → Rest (carried_of ls) op A → (Carried (lookup (line b sh ∷ ls) op) → ⊥) × A
  out sh not r =
      let h = rec A r in
      (settle op b (λ e. rw (eq-eqb op b e) not) (λ n. rw (ne_eqb op b n) h.0), h.1)

  kept : (sh : Shape) → Rest (carried_of ls) op (A × (op ≡ b → ⊥)) → (Carried (lookup (line b sh ∷ ls) op) → ⊥) × A
  kept sh r =
      let h = rec (A × (op ≡ b → ⊥)) r in
      (rw (ne_eqb op b h.1.1) h.0, h.1.0)

  step : (sh : Shape) → Rest (keep sh b (carried_of ls)) op A → (Carried (lookup (line b sh ∷ ls) op) → ⊥) × A
  step Unknown r = out Unknown (λ h. h) r
  step NotCarried r = out NotCarried (λ h. h) r
  step (Fixed d n p) r = kept (Fixed d n p) r
  step Shift r = kept Shift r
  step Many r = kept Many r
  step Hint r = kept Hint r

pub barred : (ls : List Line) (op : ℕ) (A : Type 0) → Rest (carried_of ls) op A → (Carried (lookup ls op) → ⊥) × A
barred [] op A r = (λ h. h, r)
barred (l ∷ ls) op A r = step l.byte ls op A (barred ls op) l.shape r

-- ---- a test that every line of a table passes, what is looked up passes

abbrev pub all_lines : (ℕ → Shape → Bool) → List Line → Bool
all_lines t [] = true
all_lines t (l ∷ ls) = t l.byte l.shape && all_lines t ls

pub look_up : (t : ℕ → Shape → Bool) → ((op : ℕ) → t op Unknown ≡ true) → (ls : List Line) → all_lines t ls ≡ true → (op : ℕ) → t op (lookup ls op) ≡ true
look_up t un [] h op = un op
look_up t un (l ∷ ls) h op =
    let b = both (t l.byte l.shape) (all_lines t ls) h in
    settle op l.byte
    (λ e. rw (eq-eqb op l.byte e) (ap (λ (n : ℕ). t n l.shape) e ∙ b.0))
    (λ n. rw (ne_eqb op l.byte n) (look_up t un ls b.1 op))

-- a carried opcode is a byte, and the three shapes that only one opcode has are that opcode's
abbrev pub named : ℕ → Shape → Bool
named op Unknown = true
named op NotCarried = true
named op (Fixed d n p) = ltb op 256
named op Shift = eqb op 0x10
named op Many = eqb op 0x06
named op Hint = eqb op 0x80

pub opcode_named : (op : ℕ) → named op (shape_of op) ≡ true
opcode_named = look_up named (λ op. refl) table refl
