-- Laws of the meaning: as many words as destinations; a checked program writes its rows alone; how many violations there can be. Assumes nothing.
use mathlib.Core.Path.{◌≡◌, refl, sym, ap, ◌∙◌, subst}
use mathlib.Core.Bool.{true}
use mathlib.Core.List.{List, [], ◌∷◌, map}
use Prim.Native.Nat.{ℕ, suc, ◌≤◌}
use native.Mathlib.Nat.{le_refl}
use native.Mathlib.Omega.{arith}
use lib.ListN.{length, get_or, drop, length-map, length-reverse, length-append}
use borrow.Author.Tests.{eq-eqb, ne_eqb, eqb-true}
use Rattle.common.specs.Lists.{all_below}
use Rattle.common.proofs.Below.{below_head, below_tail}
use Rattle.bytecode.specs.Opcode.{Line, table, lookup, shape_of}
use Rattle.bytecode.specs.Instruction.{Inst}
use Rattle.bytecode.specs.Encode.{FormedAs}
use Rattle.bytecode.specs.declared.opcode.Shape.{Shape}
use Rattle.bytecode.specs.declared.opcode.Shape.TheVariants as S
use Rattle.bytecode.proofs.Tables.{settle, named, opcode_named}
use Rattle.accept.specs.Sound.{Sound, AllSound, Listed, divide, leading_zeros, mirror}
use Rattle.rows.specs.Column.{Col, store, stores}
use Rattle.rows.proofs.Columns.{store_there}
use Rattle.fill.specs.Meaning.{opcodes, hints, made, noted, step, run_col, violations_from, violations}
use Rattle.fill.proofs.Runs.{noted_few}

-- ---- as many words as destinations

-- how many destinations a shape has, and so how many words an opcode of that shape makes; a hint's are told by its shape of its own
abbrev Makes : ℕ → Shape → List ℕ → List ℕ → Type 0
Makes op S.Unknown ns ws = Unit {0}
Makes op S.NotCarried ns ws = Unit {0}
Makes op (S.Fixed d s p) ns ws = length (made opcodes op ns ws) ≡ d
Makes op S.Shift ns ws = length (made opcodes op ns ws) ≡ 1
Makes op S.Many ns ws = length (made opcodes op ns ws) ≡ 1
Makes op S.Hint ns ws = Unit {0}

abbrev AllMake : List Line → List ℕ → List ℕ → Type 0
AllMake [] ns ws = Unit {0}
AllMake (l ∷ ls) ns ws = Makes l.byte l.shape ns ws × AllMake ls ns ws

make_at : (ls : List Line) (ns ws : List ℕ) → AllMake ls ns ws → (op : ℕ) → Makes op (lookup ls op) ns ws
make_at [] ns ws a op = tt
make_at (l ∷ ls) ns ws a op =
    settle op l.byte
    (λ e. rw (eq-eqb op l.byte e) (subst (λ n. Makes n l.shape ns ws) (sym e) a.0))
    (λ n. rw (ne_eqb op l.byte n) (make_at ls ns ws a.1 op))

-- the opcode table and the rules agree
table_makes : (ns ws : List ℕ) → AllMake table ns ws
table_makes ns ws =
    (refl, (refl, (refl, (refl, (refl, (refl, (refl, (refl, (refl, (refl, (refl, (tt, (refl, (refl, (refl, (refl, (refl, (refl, (refl, (refl, (tt, tt)))))))))))))))))))))

hint_makes : {id : ℕ} {ds : List ℕ} {i o : ℕ} → Listed id ds i o → (ns ws : List ℕ) → length ws ≡ i → length (made hints id ns ws) ≡ o
hint_makes divide ns ws e = refl
hint_makes leading_zeros ns ws e = refl
hint_makes (mirror k a b) ns ws e = length-reverse ws ∙ e

-- for every checked instruction the word function gives as many words as there are destinations
pub words_match : (rows : ℕ) (i : Inst) → Sound rows i → (col : Col) → length (made opcodes i.op i.numbers (map col i.sources)) ≡ length i.dests
words_match rows i s col =
    go (shape_of i.op) s.formed.shape (make_at table i.numbers ws (table_makes i.numbers ws) i.op) (opcode_named i.op)
  where
    ws : List ℕ
    ws = map col i.sources

    go : (sh : Shape) → FormedAs sh i → Makes i.op sh i.numbers ws → named i.op sh ≡ true → length (made opcodes i.op i.numbers ws) ≡ length i.dests
    go S.Unknown f m n = absurd f
    go S.NotCarried f m n = absurd f
    go (S.Fixed d a p) f m n = m ∙ sym f.0
    go S.Shift f m n = m ∙ sym f.0
    go S.Many f m n = m ∙ sym f.0
    go S.Hint f m n =
        let e : i.op ≡ 0x80 = eqb-true i.op 0x80 n in
        ap (λ op. length (made opcodes op i.numbers ws)) e ∙ hint_makes (s.hint e) i.numbers ws (length-map i.sources col)

-- ---- a checked program leaves the registers past the rows alone

abbrev pub Keeps : ℕ → (Col → Col) → Type 0
Keeps rows F = (col : Col) (r : ℕ) → rows ≤ r → F col r ≡ col r

stores_keep : (rows : ℕ) (ds vs : List ℕ) → all_below rows ds ≡ true → Keeps rows (stores ds vs)
stores_keep rows [] vs b col r h = refl
stores_keep rows (d ∷ ds) vs b col r h =
    stores_keep rows ds (drop 1 vs) (below_tail rows d ds b) (store col d (get_or vs 0 0)) r h
    ∙ store_there col d (get_or vs 0 0) (λ e. omega (arith, below_head rows d ds b))

-- the destinations are all that it takes
abbrev pub DestsBelow : ℕ → List Inst → Type 0
DestsBelow rows [] = Unit {0}
DestsBelow rows (i ∷ is) = (all_below rows i.dests ≡ true) × DestsBelow rows is

pub dests_keep : (rows : ℕ) (is : List Inst) → DestsBelow rows is → Keeps rows (run_col is)
unfolding run_col
dests_keep rows [] g col r h = refl
dests_keep rows (i ∷ is) g col r h = dests_keep rows is g.1 (step i col) r h ∙ stores_keep rows i.dests _ g.0 col r h

sound_below : (rows : ℕ) (is : List Inst) → AllSound rows is → DestsBelow rows is
sound_below rows [] g = tt
sound_below rows (i ∷ is) g = (g.0.dests_below, sound_below rows is g.1)

pub run_keeps : (rows : ℕ) (is : List Inst) → AllSound rows is → Keeps rows (run_col is)
run_keeps rows is g = dests_keep rows is (sound_below rows is g)

-- ---- a column has at most as many violations as the program has instructions

from_few : (n : ℕ) (is : List Inst) (col : Col) → length (violations_from n is col) ≤ length is
unfolding violations_from
from_few n [] col = le_refl 0
from_few n (i ∷ is) col =
    omega (arith, length-append (noted n i col) (violations_from (suc n) is (step i col)), from_few (suc n) is (step i col), noted_few n i col)

pub few_violations : (is : List Inst) (col : Col) → length (violations is col) ≤ length is
few_violations is col = from_few 0 is col
