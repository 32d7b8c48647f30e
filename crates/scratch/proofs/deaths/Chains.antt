-- The chains of `Deaths::chain`: wires that link to the next one. Assumes nothing.
use mathlib.Core.Path.{◌≡◌, refl, sym, ap, ◌∙◌}
use mathlib.Core.Bool.{Bool, true, false, cond, ◌&&◌, ◌||◌, or-true, true≢false}
use mathlib.Core.List.{List, ◌∷◌}
use mathlib.Core.Logic.{◌≢◌}
use Prim.Native.Nat.{ℕ, zero, suc, ◌+◌, ◌-◌, ◌≤◌, ◌<◌}
use native.Mathlib.Numerals.{add-one}
use native.Mathlib.Omega.{arith}
use lib.ListN.{length, get_or, set, replicate}
use lib.Seq.{get_or-set_same, get_or-set_other}
use lib.Dec.{eqb}
use borrow.Author.Tests.{eqb-true, eqb-false, eq-eqb}
use Rattle.common.specs.Lists.{member}
use Rattle.scratch.specs.Gates.{scratch, among}
use Rattle.std.proofs.Math.ListN.{get_or-replicate}
use Rattle.scratch.specs.declared.deaths.Chain.{Chain}
use Rattle.scratch.specs.Working.Arrays.{chain}
use Rattle.scratch.specs.Working.{empty_chain, wires_of}
use Rattle.scratch.proofs.Count.{length-among, count-le}

-- w is scratch and stamped g; the wires from w on that are, as the links have them
abbrev pub stamped_with : List ℕ → List ℕ → ℕ → ℕ → Bool
stamped_with marks last g w = scratch marks w && eqb (get_or last w 0) g

abbrev pub Chained : List ℕ → List ℕ → List Chain → List ℕ → ℕ → Type 0
Chained marks last chains link w = (g : ℕ) → g < 8193 → wires_of link (get_or chains g empty_chain) ≡ among (stamped_with marks last g) w (length marks - w)

pub chained_none : (marks last : List ℕ) (chains : List Chain) (link : List ℕ) → chains ≡ replicate 8193 empty_chain → Chained marks last chains link (length marks)
chained_none marks last chains link h g l =
    let e : length marks - length marks ≡ 0 = omega arith in
    rw (h, get_or-replicate {A = Chain} 8193 g empty_chain empty_chain l, e)

-- a chain that does not hold w does not see its link
chain-set : (link : List ℕ) (w v : ℕ) (c x : ℕ) → ((y : ℕ) → member y (chain link c x) ≡ true → y ≢ w) → chain (set link w v) c x ≡ chain link c x
chain-set link w v zero x h = refl
chain-set link w v (suc c) x h =
    let d = h x (rw (eq-eqb x x refl)) in
    rw (get_or-set_other link w x v 0 d, chain-set link w v c (get_or link x 0) (λ y m. h y (rw (m, or-true))))

-- the members of `among` lie in its range
pub among_from : (p : ℕ → Bool) (a m y : ℕ) → member y (among p a m) ≡ true → (a ≤ y) × (y < a + m)
among_from p a zero y h = absurd (true≢false (sym h))
among_from p a (suc m) y h = go (p a) (among p (suc a) m) (λ t. (let i = among_from p (suc a) m y t in (omega arith, omega arith))) h
  where
    go : (b : Bool) (r : List ℕ) → (member y r ≡ true → (a ≤ y) × (y < a + suc m)) → member y (cond b (a ∷ r) r) ≡ true → (a ≤ y) × (y < a + suc m)
    go true r f h = at (eqb a y) refl h
      where
        at : (b : Bool) → eqb a y ≡ b → (b || member y r) ≡ true → (a ≤ y) × (y < a + suc m)
        at true e h = let q = eqb-true a y e in (omega arith, omega arith)
        at false e h = f h
    go false r f h = f h

pub length-chain : (link : List ℕ) (c x : ℕ) → length (chain link c x) ≡ c
length-chain link zero x = refl
length-chain link (suc c) x = ap suc (length-chain link c (get_or link x 0))

module _ (marks last : List ℕ) (chains : List Chain) (link : List ℕ) (w : ℕ) (t : Chained marks last chains link w) where
  pub chained_small : (g : ℕ) → g < 8193 → w ≤ length marks → (get_or chains g empty_chain).count ≤ length marks - w
  chained_small g l h =
      omega (
        arith,
        length-chain link (get_or chains g empty_chain).count (get_or chains g empty_chain).head,
        ap length (t g l),
        length-among (stamped_with marks last g) w (length marks - w),
        count-le (stamped_with marks last g) w (length marks - w),
      )

  module _ (v : ℕ) (hv : w ≡ suc v) (hw : w ≤ length marks) where
    among_down : (p : ℕ → Bool) → among p v (length marks - v) ≡ cond (p v) (v ∷ among p w (length marks - w)) (among p w (length marks - w))
    among_down p = let e : length marks - v ≡ suc (length marks - w) = omega arith in rw (e, ← hv)

    -- the chain of gate g with v before its wires
    abbrev pub longer : ℕ → Chain
    longer g = record { head = v; count = (get_or chains g empty_chain).count + 1 }

    pub chained_more : scratch marks v ≡ true → (g : ℕ) → g ≡ get_or last v 0 → g < 8193 → v < length link → g < length chains
        → Chained marks last (set chains g (longer g)) (set link v (get_or chains g empty_chain).head) v
    chained_more m g eg lg ll lc k lk = go (eqb g k) refl
      where
        kept : wires_of (set link v (get_or chains g empty_chain).head) (get_or chains k empty_chain) ≡ among (stamped_with marks last k) w (length marks - w)
        kept =
            chain-set link v (get_or chains g empty_chain).head (get_or chains k empty_chain).count (get_or chains k empty_chain).head
            (λ y h q. omega (arith, (among_from (stamped_with marks last k) w (length marks - w) y (rw (t k lk) at h)).0))
            ∙ t k lk

        go : (b : Bool) → eqb g k ≡ b
            → wires_of (set link v (get_or chains g empty_chain).head) (get_or (set chains g (longer g)) k empty_chain) ≡ among (stamped_with marks last k) v (length marks - v)
        go true e =
            let q = eqb-true g k e in
            rw (among_down (stamped_with marks last k), ← eg, e, m, ← q, get_or-set_same chains g (longer g) empty_chain lc, add-one, get_or-set_same link v (get_or chains g empty_chain).head 0 ll)
            (ap (λ (r : List ℕ). v ∷ r) (rw (← q) at kept))
        go false e =
            let d = eqb-false g k e in
            rw (among_down (stamped_with marks last k), ← eg, e, m, get_or-set_other chains g k (longer g) empty_chain (λ q. d (sym q)))
            kept
