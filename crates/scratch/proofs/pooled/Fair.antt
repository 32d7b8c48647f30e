-- What holds of the pool at every point of the sweep, and that each step keeps it. Assumes nothing.
use mathlib.Core.Path.{◌≡◌, refl, sym, ap, ◌∙◌, subst, fun_ext}
use mathlib.Core.Bool.{Bool, true, false, not, cond, ◌&&◌, ◌||◌, or_assoc, or-false, or-true, and-true, true≢false}
use mathlib.Core.List.{List, [], ◌∷◌}
use mathlib.Core.Logic.{◌⊎◌, inl, inr}
use Prim.Native.Nat.{ℕ, zero, suc, ◌+◌, ◌≤◌, ◌<◌}
use native.Mathlib.Nat.{zero-add}
use native.Mathlib.Omega.{arith}
use lib.ListN.{length, get_or, set, length-set}
use lib.Seq.{get_or-set_same, get_or-set_other}
use lib.Dec.{eqb, ltb}
use borrow.Author.Tests.{ltb-true, ltb-false, eqb-true, eqb-false, eq-eqb, ne_eqb}
use Rattle.common.specs.Bits.{bit}
use Rattle.common.specs.Lists.{member}
use Rattle.scratch.specs.Gates.{among, scratch}
use Rattle.scratch.specs.Policies.{unslotted, Pool, takes, meets, meet_all, give_all, gives}
use Rattle.scratch.proofs.Count.{count, tally, count_add, count_none, count_all, count_last, count-one, count_pos}

-- `act w`: w is a scratch wire and has been mentioned. `later w`: it is mentioned from this gate on. A wire with both is alive.
pub record Fair (n : ℕ) (act later : ℕ → Bool) (p : Pool) : Type 0 where
  pub len : length p.slots ≡ n
  pub slotted : (w : ℕ) → w < n → eqb (get_or p.slots w 0) unslotted ≡ not (act w)
  -- the free slots and those of the living are the numbers below the size, each once: counted by any test t
  pub tallies : (t : ℕ → Bool) → tally t p.free + count (λ w. (act w && later w) && t (get_or p.slots w 0)) 0 n ≡ count t 0 p.size
  pub used : (s : ℕ) → s < p.size → (w : ℕ) × (w < n) × (act w ≡ true) × (get_or p.slots w 0 ≡ s)
  pub under : (w : ℕ) → w < n → act w ≡ true → get_or p.slots w 0 < p.size
  pub small : p.size ≤ n

-- a scratch wire that has been seen
abbrev pub act : List ℕ → (ℕ → Bool) → ℕ → Bool
act marks seen w = scratch marks w && seen w

pub below : (r k : ℕ) → r < suc k → (r ≡ k) ⊎ (r < k)
below r k h = go (eqb r k) refl
  where
    go : (b : Bool) → eqb r k ≡ b → (r ≡ k) ⊎ (r < k)
    go true e = inl (eqb-true r k e)
    go false e = inr (omega (arith, eqb-false r k e))

-- x, which has no slot yet, gets the slot s
module _ (n : ℕ) (act later : ℕ → Bool) (p : Pool) (x s : ℕ) (free : List ℕ) (size : ℕ) (f : Fair n act later p) (hx : x < n)
    (ax : act x ≡ false) (lx : later x ≡ true) (hs : s < size) (hl : p.size ≤ size) (hn : size ≤ n) (nn : n < unslotted)
    (ht : (t : ℕ → Bool) → tally t p.free + count t 0 size ≡ tally t free + bit (t s) + count t 0 p.size)
    (hu : (r : ℕ) → r < size → (r ≡ s) ⊎ (r < p.size)) where
  here : get_or (set p.slots x s) x 0 ≡ s
  here = get_or-set_same p.slots x s 0 (omega (arith, f.len))

  there : (w : ℕ) → eqb x w ≡ false → get_or (set p.slots x s) w 0 ≡ get_or p.slots w 0
  there w e = get_or-set_other p.slots x w s 0 (λ q. eqb-false x w e (sym q))

  slotted' : (w : ℕ) → w < n → (b : Bool) → eqb x w ≡ b → eqb (get_or (set p.slots x s) w 0) unslotted ≡ not (act w || eqb x w)
  slotted' w h true e = rw (← eqb-true x w e, here, ne_eqb s unslotted (λ q. omega arith), ax, eq-eqb x x refl)
  slotted' w h false e = rw (e, there w e, or-false) (f.slotted w h)

  bits : (t : ℕ → Bool) (w : ℕ) (b : Bool) → eqb x w ≡ b
      → bit (((act w || eqb x w) && later w) && t (get_or (set p.slots x s) w 0))
      ≡ bit ((act w && later w) && t (get_or p.slots w 0)) + bit (eqb x w && t s)
  bits t w true e = rw (← eqb-true x w e, here, ax, lx, eq-eqb x x refl) (omega arith)
  bits t w false e = rw (e, there w e, or-false) (omega arith)

  used' : (r : ℕ) → r < size → (w : ℕ) × (w < n) × ((act w || eqb x w) ≡ true) × (get_or (set p.slots x s) w 0 ≡ r)
  used' r h = go (hu r h)
    where
      go : (r ≡ s) ⊎ (r < p.size) → (w : ℕ) × (w < n) × ((act w || eqb x w) ≡ true) × (get_or (set p.slots x s) w 0 ≡ r)
      go (inl e) = (x, hx, rw (ax, eq-eqb x x refl), here ∙ sym e)
      go (inr l) =
          let (w, h, a, e) = f.used r l in
          (w, h, rw a, there w (ne_eqb x w (λ q. true≢false (sym a ∙ ap act (sym q) ∙ ax))) ∙ e)

  under' : (w : ℕ) → w < n → (b : Bool) → eqb x w ≡ b → (act w || b) ≡ true → get_or (set p.slots x s) w 0 < size
  under' w h true e a = rw (← eqb-true x w e, here) hs
  under' w h false e a = rw (there w e) (omega (arith, f.under w h (rw or-false at a)))

  pub put : Fair n (λ w. act w || eqb x w) later (record { slots = set p.slots x s; free = free; size = size })
  put =
      record {
        len = length-set p.slots x s ∙ f.len;
        slotted = λ w h. slotted' w h (eqb x w) refl;
        tallies =
            λ t.
            let c =
            count_add (λ w. ((act w || eqb x w) && later w) && t (get_or (set p.slots x s) w 0))
            (λ w. (act w && later w) && t (get_or p.slots w 0)) (λ w. eqb x w && t s) 0 n (λ w _ _. bits t w (eqb x w) refl) in
            omega (arith, ht t, f.tallies t, count-one x (t s) 0 n (omega arith) (omega arith));
        used = used';
        under = λ w h a. under' w h (eqb x w) refl a;
        small = hn;
      }

module _ (n : ℕ) (hn : n < unslotted) (later : ℕ → Bool) where
  -- a free slot is a slot
  popped : (act : ℕ → Bool) (slots free : List ℕ) (size s : ℕ) → Fair n act later (record { slots = slots; free = s ∷ free; size = size }) → s < size
  popped act slots free size s f = go (ltb s size) refl
    where
      go : (b : Bool) → ltb s size ≡ b → s < size
      go true e = ltb-true s size e
      go false e =
          absurd
          (omega (
            arith,
            f.tallies (λ r. eqb s r && true),
            ap (λ (b : Bool). bit (b && true)) (eq-eqb s s refl),
            count_none (λ r. eqb s r && true) 0 size (λ r _ u. rw (ne_eqb s r (λ q. omega (arith, ltb-false s size e)))),
          ))

  -- where no slot is free, the living have all slots, and x is not among them
  room : (act : ℕ → Bool) (slots : List ℕ) (size x : ℕ) → Fair n act later (record { slots = slots; free = []; size = size }) → x < n → act x ≡ false → size < n
  room act slots size x f h a =
      omega (
        arith,
        f.tallies (λ r. true),
        count_all 0 size,
        count_all 0 n,
        count_add (λ w. true) (λ w. (act w && later w) && true) (λ w. not ((act w && later w) && true)) 0 n (λ w _ _. either ((act w && later w) && true)),
        count_pos (λ w. not ((act w && later w) && true)) 0 n x (omega arith) (omega arith) (rw a),
      )
    where
      either : (b : Bool) → 1 ≡ bit b + bit (not b)
      either true = refl
      either false = refl

  taken : (act : ℕ → Bool) (slots free : List ℕ) (size x : ℕ) → Fair n act later (record { slots = slots; free = free; size = size }) → x < n → act x ≡ false → later x ≡ true
      → Fair n (λ w. act w || eqb x w) later (takes slots free size x)
  taken act slots [] size x f h a l =
      let r = room act slots size x f h a in
      put n act later (record { slots = slots; free = []; size = size }) x size [] (suc size) f h a l (omega arith) (omega arith) (omega arith) hn
      (λ t. omega (arith, count_last t 0 size, ap (λ (k : ℕ). bit (t k)) (zero-add size))) (λ r h. below r size h)
  taken act slots (s ∷ free) size x f h a l =
      put n act later (record { slots = slots; free = s ∷ free; size = size }) x s free size f h a l (popped act slots free size s f) (omega arith) f.small hn
      (λ t. omega arith) (λ r h. inr h)

  module _ (marks : List ℕ) where
    same_act : (seen : ℕ → Bool) (x : ℕ) → act marks seen x ≡ scratch marks x → act marks seen ≡ act marks (λ w. seen w || eqb x w)
    same_act seen x h = fun_ext (λ w. at w (eqb x w) refl)
      where
        at : (w : ℕ) (b : Bool) → eqb x w ≡ b → act marks seen w ≡ act marks (λ w. seen w || eqb x w) w
        at w true e = rw (← eqb-true x w e, eq-eqb x x refl, or-true, and-true) h
        at w false e = rw (e, or-false)

    new_act : (seen : ℕ → Bool) (x : ℕ) → scratch marks x ≡ true → (λ (w : ℕ). act marks seen w || eqb x w) ≡ act marks (λ w. seen w || eqb x w)
    new_act seen x h = fun_ext (λ w. at w (eqb x w) refl)
      where
        at : (w : ℕ) (b : Bool) → eqb x w ≡ b → (act marks seen w || eqb x w) ≡ act marks (λ w. seen w || eqb x w) w
        at w true e = rw (← eqb-true x w e, eq-eqb x x refl, or-true, h, or-true)
        at w false e = rw (e, or-false, or-false)

    -- one mention keeps the pool fair
    pub met : (seen : ℕ → Bool) (p : Pool) (x : ℕ) → Fair n (act marks seen) later p → x < n → later x ≡ true → Fair n (act marks (λ w. seen w || eqb x w)) later (meets marks p x)
    met seen p x f h l = go (scratch marks x) (seen x) refl refl
      where
        go : (b c : Bool) → scratch marks x ≡ b → seen x ≡ c → Fair n (act marks (λ w. seen w || eqb x w)) later (meets marks p x)
        go false c e e' = rw e (subst (λ (a : ℕ → Bool). Fair n a later p) (same_act seen x (rw e)) f)
        go true true e e' = rw (e, f.slotted x h, e, e') (subst (λ (a : ℕ → Bool). Fair n a later p) (same_act seen x (rw (e, e'))) f)
        go true false e e' =
            rw (e, f.slotted x h, e, e')
            (subst (λ (a : ℕ → Bool). Fair n a later (takes p.slots p.free p.size x)) (new_act seen x e)
            (taken (act marks seen) p.slots p.free p.size x f h (rw (e, e')) l))

    -- the mentions of a gate keep it
    pub all_met : (seen : ℕ → Bool) (p : Pool) (g : List ℕ) → Fair n (act marks seen) later p → ((x : ℕ) → member x g ≡ true → (x < n) × (later x ≡ true))
        → Fair n (act marks (λ w. seen w || member w g)) later (meet_all marks p g)
    all_met seen p [] f h = subst (λ (s : ℕ → Bool). Fair n (act marks s) later p) (fun_ext (λ w. sym (or-false (seen w)))) f
    all_met seen p (x ∷ g) f h =
        let (b, l) = h x (rw (eq-eqb x x refl)) in
        subst (λ (s : ℕ → Bool). Fair n (act marks s) later (meet_all marks (meets marks p x) g)) (fun_ext (λ w. or_assoc (seen w) (eqb x w) (member w g)))
        (all_met (λ w. seen w || eqb x w) (meets marks p x) g (met seen p x f b l) (λ y m. h y (rw (m, or-true))))

-- the slots only grow, and where they do, none is free
abbrev pub Grows : Pool → Pool → Type 0
Grows p q = (p.size ≤ q.size) × ((q.size ≡ p.size) ⊎ (q.free ≡ []))

grows : (p : Pool) (slots free : List ℕ) (size x : ℕ) → Grows p (record { slots = slots; free = free; size = size }) → Grows p (takes slots free size x)
grows p slots [] size x g = (omega arith, inr refl)
grows p slots (s ∷ free) size x (l, inl e) = (l, inl e)
grows p slots (s ∷ free) size x (l, inr e) = absurd (omega (arith, ap length e))

pub all_grow : (marks : List ℕ) (p q : Pool) (g : List ℕ) → Grows p q → Grows p (meet_all marks q g)
all_grow marks p q [] h = h
all_grow marks p q (x ∷ g) h = all_grow marks p (meets marks q x) g (go (scratch marks x && eqb (get_or q.slots x 0) unslotted))
  where
    go : (b : Bool) → Grows p (cond b (takes q.slots q.free q.size x) q)
    go true = grows p q.slots q.free q.size x h
    go false = h

-- what is given back
tally_give : (t : ℕ → Bool) (slots free ws : List ℕ) → tally t (give_all slots free ws) ≡ tally t free + tally (λ w. t (get_or slots w 0)) ws
tally_give t slots free [] = omega arith
tally_give t slots free (w ∷ ws) = omega (arith, tally_give t slots (get_or slots w 0 ∷ free) ws)

tally_among : (t d : ℕ → Bool) (a m : ℕ) → tally t (among d a m) ≡ count (λ w. d w && t w) a m
tally_among t d a zero = refl
tally_among t d a (suc m) = go (d a) (among d (suc a) m) (tally_among t d (suc a) m)
  where
    go : (b : Bool) (r : List ℕ) {c : ℕ} → tally t r ≡ c → tally t (cond b (a ∷ r) r) ≡ bit (b && t a) + c
    go true r e = omega arith
    go false r e = omega arith

pub given : (n : ℕ) (a later later' d : ℕ → Bool) (p : Pool) → Fair n a later p
    → ((w : ℕ) (b : Bool) → bit ((a w && later w) && b) ≡ bit (d w && b) + bit ((a w && later' w) && b))
    → Fair n a later' (gives p (among d 0 n))
given n a later later' d p f h =
    record {
      len = f.len;
      slotted = f.slotted;
      tallies =
          λ t.
          let s : ℕ → Bool = λ w. t (get_or p.slots w 0) in
          omega (
            arith,
            f.tallies t,
            tally_give t p.slots p.free (among d 0 n),
            tally_among s d 0 n,
            count_add (λ w. (a w && later w) && s w) (λ w. d w && s w) (λ w. (a w && later' w) && s w) 0 n (λ w _ _. h w (s w)),
          );
      used = f.used;
      under = f.under;
      small = f.small;
    }
