-- Flat gate ends against the list of gates, and what an accepted list tells. Assumes nothing.
use mathlib.Core.Path.{◌≡◌, refl, sym, ap, ◌∙◌}
use mathlib.Core.Bool.{Bool, true, false, ◌||◌, or-true, true≢false}
use mathlib.Core.List.{List, [], ◌∷◌}
use Prim.Native.Nat.{ℕ, zero, suc, ◌+◌, ◌-◌, ◌≤◌, ◌<◌, min}
use native.Mathlib.Omega.{arith}
use lib.ListN.{length, get_or, take, drop}
use lib.Seq.{slice}
use lib.Dec.{eqb, leb}
use borrow.Author.Tests.{eqb-true, leb-true}
use Rattle.std.proofs.lemmas.List.{drop-take, get_or-take, get_or-drop, length-take, length-drop}
use Rattle.common.specs.Lists.{member, all_below}
use Rattle.common.proofs.Bools.{both}
use Rattle.common.proofs.Below.{below_at, member-at}
use Rattle.scratch.specs.Gates.{gates_from, gates_of}
use Rattle.scratch.specs.Accept.{most_wires, most_gates, most_mentions, closes, accepted}
use Rattle.scratch.specs.Policies.{unslotted}
use Rattle.scratch.specs.Working.Arrays.{Within, start}

pub gates_length : (from : ℕ) (ends mentions : List ℕ) → length (gates_from from ends mentions) ≡ length ends
gates_length from [] mentions = refl
gates_length from (end ∷ ends) mentions = ap suc (gates_length end ends mentions)

pub gate_at : (from : ℕ) (ends mentions : List ℕ) (k : ℕ) → k < length ends → get_or (gates_from from ends mentions) k [] ≡ slice (start from ends k) (get_or ends k 0) mentions
gate_at from [] mentions k h = absurd (omega arith)
gate_at from (end ∷ ends) mentions zero h = refl
gate_at from (end ∷ ends) mentions (suc zero) h = gate_at end ends mentions zero (omega arith)
gate_at from (end ∷ ends) mentions (suc (suc k)) h = gate_at end ends mentions (suc k) (omega arith)

pub start_after : (ends : List ℕ) (k : ℕ) → 0 < k → start 0 ends k ≡ get_or ends (k - 1) 0
start_after ends zero h = absurd (omega arith)
start_after ends (suc k) h = let e : k ≡ suc k - 1 = omega arith in ap (λ (j : ℕ). get_or ends j 0) e

-- a part of a list, cut from either side first
pub cut_is : (a b : ℕ) (xs : List ℕ) → a ≤ b → take (b - a) (drop a xs) ≡ slice a b xs
cut_is a b xs h = let e : a + (b - a) ≡ b = omega arith in sym (drop-take a (b - a) xs) ∙ ap (λ (n : ℕ). drop a (take n xs)) e

-- what a list keeps below n, a part of it does
pub cut_known : (n : ℕ) (xs : List ℕ) (a k : ℕ) → all_below n xs ≡ true → Within n (take k (drop a xs))
cut_known n xs a k h i l =
    let m : i < min k (length xs - a) = simp (length-take, length-drop) at l in
    let b : get_or xs (a + i) 0 < n = below_at n xs (a + i) h (omega arith) in
    rw (get_or-take k (drop a xs) i 0 (omega arith), get_or-drop a xs i 0) b

-- ends that close: none falls, none passes the count, and the last is the count
close_total : (from count : ℕ) (ends : List ℕ) → closes from count ends ≡ true → from ≤ count
close_total from count [] h = omega (arith, eqb-true from count h)
close_total from count (end ∷ ends) h =
    let (l, r) = both (leb from end) (closes end count ends) h in
    omega (arith, leb-true from end l, close_total end count ends r)

pub close_at : (from count : ℕ) (ends : List ℕ) (k : ℕ) → closes from count ends ≡ true → k < length ends → (start from ends k ≤ get_or ends k 0) × (get_or ends k 0 ≤ count)
close_at from count [] k h l = absurd (omega arith)
close_at from count (end ∷ ends) zero h l =
    let (p, r) = both (leb from end) (closes end count ends) h in
    (leb-true from end p, close_total end count ends r)
close_at from count (end ∷ ends) (suc zero) h l = close_at end count ends zero (both (leb from end) (closes end count ends) h).1 (omega arith)
close_at from count (end ∷ ends) (suc (suc k)) h l = close_at end count ends (suc k) (both (leb from end) (closes end count ends) h).1 (omega arith)

pub close_last : (from count : ℕ) (ends : List ℕ) → closes from count ends ≡ true → start from ends (length ends) ≡ count
close_last from count [] h = eqb-true from count h
close_last from count (end ∷ []) h = eqb-true end count (both (leb from end) (closes end count []) h).1
close_last from count (end ∷ next ∷ ends) h = close_last end count (next ∷ ends) (both (leb from end) (closes end count (next ∷ ends)) h).1

-- what a part of a list holds, the list holds
pub member-drop : (k : ℕ) (ws : List ℕ) (x : ℕ) → member x (drop k ws) ≡ true → member x ws ≡ true
member-drop zero ws x h = h
member-drop (suc k) [] x h = h
member-drop (suc k) (w ∷ ws) x h = rw (member-drop k ws x h, or-true)

pub member-take : (k : ℕ) (ws : List ℕ) (x : ℕ) → member x (take k ws) ≡ true → member x ws ≡ true
member-take zero ws x h = absurd (true≢false (sym h))
member-take (suc k) [] x h = h
member-take (suc k) (w ∷ ws) x h = go (eqb w x) h (member-take k ws x)
  where
    go : (b : Bool) → (b || member x (take k ws)) ≡ true → (member x (take k ws) ≡ true → member x ws ≡ true) → (b || member x ws) ≡ true
    go true h f = refl
    go false h f = f h

pub member_below : (n : ℕ) (ws : List ℕ) (x : ℕ) → all_below n ws ≡ true → member x ws ≡ true → x < n
member_below n ws x h m = let (k, l, e) = member-at x ws m in omega (arith, below_at n ws k h l)

-- an accepted list
pub record Good (wires : ℕ) (ends mentions marks slots : List ℕ) : Type 0 where
  pub few : wires ≤ most_wires
  pub gates : length ends ≤ most_gates
  pub listed : length mentions ≤ most_mentions
  pub cut : closes 0 (length mentions) ends ≡ true
  pub inside : all_below wires mentions ≡ true
  pub marked : length marks ≡ wires
  pub slotted : length slots ≡ wires

pub good : (wires : ℕ) (ends mentions marks slots : List ℕ) → accepted wires ends mentions marks slots ≡ true → Good wires ends mentions marks slots
unfolding accepted
good wires ends mentions marks slots h =
    let (a, h₁) = both (leb wires most_wires) _ h in
    let (b, h₂) = both (leb (length ends) most_gates) _ h₁ in
    let (c, h₃) = both (leb (length mentions) most_mentions) _ h₂ in
    let (d, h₄) = both (closes 0 (length mentions) ends) _ h₃ in
    let (e, h₅) = both (all_below wires mentions) _ h₄ in
    let (f, g) = both (eqb (length marks) wires) _ h₅ in
    record {
      few = leb-true wires most_wires a;
      gates = leb-true (length ends) most_gates b;
      listed = leb-true (length mentions) most_mentions c;
      cut = d;
      inside = e;
      marked = eqb-true (length marks) wires f;
      slotted = eqb-true (length slots) wires g;
    }

module _ {wires : ℕ} {ends mentions marks slots : List ℕ} (ok : Good wires ends mentions marks slots) where
  -- a wire's number is never taken for the mark of the unslotted
  pub small : wires < unslotted
  small = omega (arith, ok.few)

  -- a gate mentions wires that there are
  pub inside : (k w : ℕ) → k < length (gates_of ends mentions) → member w (get_or (gates_of ends mentions) k []) ≡ true → w < wires
  inside k w h m =
      let t = rw (gate_at 0 ends mentions k (omega (arith, gates_length 0 ends mentions))) at m in
      member_below wires mentions w ok.inside (member-take (get_or ends k 0) mentions w (member-drop (start 0 ends k) (take (get_or ends k 0) mentions) w t))
