-- What the judging of one instruction finds: nothing wrong exactly where the instruction is sound. Assumes nothing.
use Prim.Native.Nat.{ℕ, ◌≤◌}
use mathlib.Core.Path.{◌≡◌, refl}
use mathlib.Core.List.{List, [], ◌∷◌}
use mathlib.Core.Bool.{Bool, true, false, cond, ◌&&◌, ◌||◌, and-false}
use native.Mathlib.Omega.{arith}
use borrow.Author.Tests.{eqb-true, eq-eqb, ne_eqb, ltb-true, ltb-false, le-ltb, leb-true, le-leb, not-false}
use lib.Dec.{eqb, ltb, leb}
use lib.ListN.{length, get_or, drop}
use Rattle.refusal.specs.declared.Refusal.{Refusal}
use Rattle.refusal.specs.declared.Refusal.TheVariants as R
use Rattle.common.specs.Lists.{member, all_below}
use Rattle.common.proofs.Bools.{both, neither, either}
use Rattle.bytecode.specs.Instruction.{Inst}
use Rattle.bytecode.specs.Encode.{Formed}
use Rattle.bytecode.proofs.Tables.{settle}
use Rattle.shift.specs.Variant.{most_amount}
use Rattle.accept.specs.Check.{Verdict, accepted, refusal, refuse, hint_listed, overlap, shift_bad_amount, bad_hint, bad_register, judged}
use Rattle.accept.specs.Sound.{FittingAmount, Listed, divide, leading_zeros, mirror, Distinct, Apart, Sound}

-- ---- 7

most : (variant amount : ℕ) → amount ≤ most_amount variant → FittingAmount variant amount
most v m h = go (ltb v 4) refl h
  where
    go : (t : Bool) → ltb v 4 ≡ t → m ≤ cond t 63 31 → FittingAmount v m
    go true e l = (l, λ g. absurd (omega (arith, ltb-true v 4 e)))
    go false e l = (omega arith, λ g. l)

fitting : (variant amount : ℕ) → FittingAmount variant amount → amount ≤ most_amount variant
fitting v m f = go (ltb v 4) refl
  where
    go : (t : Bool) → ltb v 4 ≡ t → m ≤ cond t 63 31
    go true e = f.0
    go false e = f.1 (ltb-false v 4 e)

pub amount_fits : (i : Inst) → shift_bad_amount i ≡ false → i.op ≡ 0x10 → FittingAmount (get_or i.numbers 0 0) (get_or i.numbers 1 0)
unfolding shift_bad_amount
amount_fits i e o =
    let v = get_or i.numbers 0 0 in
    let m = get_or i.numbers 1 0 in
    most v m (ltb-false (most_amount v) m (rw (eq-eqb i.op 0x10 o) at e))

pub fits_amount : (i : Inst) → (i.op ≡ 0x10 → FittingAmount (get_or i.numbers 0 0) (get_or i.numbers 1 0)) → shift_bad_amount i ≡ false
unfolding shift_bad_amount
fits_amount i h =
    let v = get_or i.numbers 0 0 in
    let m = get_or i.numbers 1 0 in
    settle i.op 0x10
    (λ o. rw (le-ltb (most_amount v) m (fitting v m (h o)), and-false))
    (λ n. rw (ne_eqb i.op 0x10 n))

-- ---- 8

three : (a b c d e f : ℕ) → (eqb a b && (eqb c d && eqb e f)) ≡ true → (a ≡ b) × (c ≡ d) × (e ≡ f)
three a b c d e f h =
    let p = both (eqb a b) (eqb c d && eqb e f) h in
    let q = both (eqb c d) (eqb e f) p.1 in
    (eqb-true a b p.0, eqb-true c d q.0, eqb-true e f q.1)

pub test_listed : (id : ℕ) (dims : List ℕ) (ins outs : ℕ) → hint_listed id dims ins outs ≡ true → Listed id dims ins outs
test_listed id [] ins outs e =
    either (eqb id 1 && (eqb ins 2 && eqb outs 2)) (eqb id 2 && (eqb ins 1 && eqb outs 1)) e
    (λ h. let t = three id 1 ins 2 outs 2 h in rw (t.0, t.1, t.2) divide)
    (λ h. let t = three id 2 ins 1 outs 1 h in rw (t.0, t.1, t.2) leading_zeros)
test_listed id (k ∷ []) ins outs e =
    let p = both (eqb id 3) (leb 1 k && leb k 8 && (eqb ins k && eqb outs k)) e in
    let q = both (leb 1 k && leb k 8) (eqb ins k && eqb outs k) p.1 in
    let r = both (leb 1 k) (leb k 8) q.0 in
    let t = both (eqb ins k) (eqb outs k) q.1 in
    rw (eqb-true id 3 p.0, eqb-true ins k t.0, eqb-true outs k t.1) (mirror k (leb-true 1 k r.0) (leb-true k 8 r.1))
test_listed id (k ∷ l ∷ ks) ins outs e = let z : ◌≡◌ {A = ℕ} 0 1 = cc in absurd (omega arith)

pub listed_test : {id : ℕ} {dims : List ℕ} {ins outs : ℕ} → Listed id dims ins outs → hint_listed id dims ins outs ≡ true
listed_test divide = refl
listed_test leading_zeros = refl
listed_test (mirror k a b) = rw (le-leb 1 k a, le-leb k 8 b, eq-eqb k k refl)

pub hint_listed_lem : (i : Inst) → bad_hint i ≡ false → i.op ≡ 0x80 → Listed (get_or i.numbers 0 0) (drop 1 i.numbers) (length i.sources) (length i.dests)
unfolding bad_hint
hint_listed_lem i e o = test_listed _ _ _ _ (not-false _ (rw (eq-eqb i.op 0x80 o) at e))

pub listed_hint : (i : Inst) → (i.op ≡ 0x80 → Listed (get_or i.numbers 0 0) (drop 1 i.numbers) (length i.sources) (length i.dests)) → bad_hint i ≡ false
unfolding bad_hint
listed_hint i h = settle i.op 0x80 (λ o. rw (listed_test (h o), and-false)) (λ n. rw (ne_eqb i.op 0x80 n))

-- ---- 10

pub overlap_none : (ds ss : List ℕ) → overlap ds ss ≡ false → Apart ds ss × Distinct ds
overlap_none [] ss e = (tt, tt)
overlap_none (d ∷ ds) ss e =
    let p = neither (member d ss) (member d ds || overlap ds ss) e in
    let q = neither (member d ds) (overlap ds ss) p.1 in
    let r = overlap_none ds ss q.1 in
    ((p.0, r.0), (q.0, r.1))

pub none_overlap : (ds ss : List ℕ) → Apart ds ss → Distinct ds → overlap ds ss ≡ false
none_overlap [] ss a b = refl
none_overlap (d ∷ ds) ss a b = rw (a.0, b.0) (none_overlap ds ss a.1 b.1)

-- ---- all of them

pub clash : (r o : ℕ) → refusal r o ≡ accepted → ⊥
clash r o e = let z : ◌≡◌ {A = ℕ} 0 1 = cc in omega arith

refuse_accepted : (t : Bool) (r : Refusal) (v : Verdict) → refuse t r v ≡ accepted → (t ≡ false) × (v ≡ accepted)
refuse_accepted true r v e = absurd (clash _ 0 e)
refuse_accepted false r v e = (refl, e)

pub record Faultless (rows : ℕ) (i : Inst) : Type 0 where
  pub amount : shift_bad_amount i ≡ false
  pub hint : bad_hint i ≡ false
  pub register : bad_register rows i ≡ false
  pub overlapping : overlap i.dests i.sources ≡ false

pub faultless : (rows : ℕ) (i : Inst) → judged rows i ≡ accepted → Faultless rows i
unfolding judged
faultless rows i e =
    let p = refuse_accepted (shift_bad_amount i) R.BadShift _ e in
    let q = refuse_accepted (bad_hint i) R.BadHint _ p.1 in
    let r = refuse_accepted (bad_register rows i) R.BadRegister _ q.1 in
    let t = refuse_accepted (overlap i.dests i.sources) R.Overlap accepted r.1 in
    record { amount = p.0; hint = q.0; register = r.0; overlapping = t.0 }

pub judged_sound : (rows : ℕ) (i : Inst) → Formed i → judged rows i ≡ accepted → Sound rows i
unfolding bad_register
judged_sound rows i f e =
    let n = faultless rows i e in
    let b = both (all_below rows i.dests) (all_below rows i.sources) (not-false _ n.register) in
    let o = overlap_none i.dests i.sources n.overlapping in
    record { formed = f; amount = amount_fits i n.amount; hint = hint_listed_lem i n.hint; dests_below = b.0; sources_below = b.1; apart = o.0; distinct = o.1 }

pub sound_judged : (rows : ℕ) (i : Inst) → Sound rows i → judged rows i ≡ accepted
unfolding judged bad_register
sound_judged rows i s =
    rw (fits_amount i s.amount, listed_hint i s.hint, s.dests_below, s.sources_below, none_overlap i.dests i.sources s.apart s.distinct)
