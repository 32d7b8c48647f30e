-- The pool at every gate: fair, of the peak's size, and without a clash. Assumes nothing.
use mathlib.Core.Path.{◌≡◌, refl, sym, ap, ◌∙◌, subst, fun_ext}
use mathlib.Core.Bool.{Bool, true, false, not, cond, ◌&&◌, ◌||◌, or_assoc, or-false, and-true, and-false, and_assoc, true≢false}
use mathlib.Core.List.{List, [], ◌∷◌, ◌++◌, map}
use mathlib.Core.Logic.{◌≢◌, ◌⊎◌, inl, inr}
use Prim.Native.Nat.{ℕ, zero, suc, ◌+◌, ◌≤◌, ◌<◌, max}
use native.Mathlib.Omega.{arith}
use lib.ListN.{length, get_or, take, drop, replicate, length-replicate, get_or-replicate}
use lib.Seq.{get_or-set_other, take-suc, drop-cons}
use lib.Dec.{eqb}
use borrow.Author.Tests.{eqb-true, eqb-false, eq-eqb}
use Rattle.common.specs.Bits.{bit}
use Rattle.common.specs.Lists.{member}
use Rattle.scratch.specs.Gates.{among, mentioned, scratch, spans, last_at, alive, peak_to}
use Rattle.scratch.specs.Assignments.{Apart, slots_to}
use Rattle.scratch.specs.Policies.{unslotted, Pool, takes, meets, meet_all, dying, pooled}
use Rattle.scratch.proofs.Count.{count, tally, length-among, count_none, count_ext, count_all, count_two, count-one-le, distinct_count, image_of, of_image}
use Rattle.common.proofs.Bools.{both}
use Rattle.scratch.proofs.pooled.Fair.{Fair, act, all_met, Grows, all_grow, given, below}

pub mentioned-append : (gates hs : List (List ℕ)) (w : ℕ) → mentioned (gates ++ hs) w ≡ (mentioned gates w || mentioned hs w)
mentioned-append [] hs w = refl
mentioned-append (g ∷ gates) hs w = rw (mentioned-append gates hs w) (sym (or_assoc (member w g) (mentioned gates w) (mentioned hs w)))

tally_all : (xs : List ℕ) → tally (λ r. true) xs ≡ length xs
tally_all [] = refl
tally_all (x ∷ xs) = omega (arith, tally_all xs)

-- a slotted wire keeps its slot
takes_keeps : (slots free : List ℕ) (size x w : ℕ) → w ≢ x → get_or (takes slots free size x).slots w 0 ≡ get_or slots w 0
takes_keeps slots [] size x w d = get_or-set_other slots x w size 0 d
takes_keeps slots (s ∷ free) size x w d = get_or-set_other slots x w s 0 d

meets_keeps : (marks : List ℕ) (p : Pool) (x w : ℕ) → eqb (get_or p.slots w 0) unslotted ≡ false → get_or (meets marks p x).slots w 0 ≡ get_or p.slots w 0
meets_keeps marks p x w e = go (scratch marks x && eqb (get_or p.slots x 0) unslotted) refl
  where
    go : (b : Bool) → (scratch marks x && eqb (get_or p.slots x 0) unslotted) ≡ b → get_or (cond b (takes p.slots p.free p.size x) p).slots w 0 ≡ get_or p.slots w 0
    go true t =
        takes_keeps p.slots p.free p.size x w
        (λ q. true≢false (sym (both (scratch marks x) (eqb (get_or p.slots x 0) unslotted) t).1 ∙ ap (λ (v : ℕ). eqb (get_or p.slots v 0) unslotted) (sym q) ∙ e))
    go false t = refl

all_keep : (marks : List ℕ) (p : Pool) (g : List ℕ) (w : ℕ) → eqb (get_or p.slots w 0) unslotted ≡ false → get_or (meet_all marks p g).slots w 0 ≡ get_or p.slots w 0
all_keep marks p [] w e = refl
all_keep marks p (x ∷ g) w e =
    let k = meets_keeps marks p x w e in
    all_keep marks (meets marks p x) g w (rw k e) ∙ k

-- scratch, mentioned before, mentioned at the gate, mentioned after it: the living are those that die here and those that live on
parts : (s p g l b : Bool) → bit (((s && (p || g)) && (g || l)) && b) ≡ bit ((s && (g && not l)) && b) + bit (((s && (p || g)) && l) && b)
parts false p g l b = refl
parts true true true true b = omega arith
parts true true true false b = omega arith
parts true true false true b = omega arith
parts true true false false b = refl
parts true false true true b = omega arith
parts true false true false b = omega arith
parts true false false l b = refl

module _ (n : ℕ) (hn : n < unslotted) (marks : List ℕ) (gates : List (List ℕ))
    (inside : (k x : ℕ) → k < length gates → member x (get_or gates k []) ≡ true → x < n) where
  -- mentioned before gate k; mentioned from gate k on
  abbrev seen : ℕ → ℕ → Bool
  seen k w = mentioned (take k gates) w

  abbrev later : ℕ → ℕ → Bool
  later k w = mentioned (drop k gates) w

  seen_suc : (k : ℕ) → k < length gates → (w : ℕ) → seen (suc k) w ≡ (seen k w || member w (get_or gates k []))
  seen_suc k h w = rw (take-suc gates k [] h, mentioned-append (take k gates) (get_or gates k [] ∷ []) w, or-false)

  later_suc : (k : ℕ) → k < length gates → (w : ℕ) → later k w ≡ (member w (get_or gates k []) || later (suc k) w)
  later_suc k h w = ap (λ (l : List (List ℕ)). mentioned l w) (drop-cons gates k [] h)

  -- the pool after the mentions of gate k, where the living are counted
  abbrev pub full : ℕ → Pool
  full k = meet_all marks (pooled n marks gates k) (get_or gates k [])

  mid : (k : ℕ) → k < length gates → Fair n (act marks (seen k)) (later k) (pooled n marks gates k) → Fair n (act marks (seen (suc k))) (later k) (full k)
  mid k h f =
      subst (λ (s : ℕ → Bool). Fair n (act marks s) (later k) (full k)) (fun_ext (λ w. sym (seen_suc k h w)))
      (all_met n hn (later k) marks (seen k) (pooled n marks gates k) (get_or gates k []) f (λ x m. (inside k x h m, rw (later_suc k h x, m))))

  pub fair : (k : ℕ) → k ≤ length gates → Fair n (act marks (seen k)) (later k) (pooled n marks gates k)
  unfolding pooled dying
  fair zero h =
      record {
        len = length-replicate n unslotted;
        slotted = λ w h. rw (get_or-replicate n w unslotted 0 h, and-false);
        tallies = λ t. omega (arith, count_none (λ w. (act marks (seen 0) w && later 0 w) && t (get_or (replicate n unslotted) w 0)) 0 n (λ w _ _. rw and-false));
        used = λ s h. absurd (omega arith);
        under = λ w h a. absurd (true≢false (sym a ∙ and-false (scratch marks w)));
        small = omega arith;
      }
  fair (suc k) h =
      given n (act marks (seen (suc k))) (later k) (later (suc k)) (λ w. scratch marks w && last_at gates k w) (full k) (mid k h (fair k (omega arith)))
      (λ w b. rw (seen_suc k h w, later_suc k h w) (parts (scratch marks w) (seen k w) (member w (get_or gates k [])) (later (suc k) w) b))

  living : (k : ℕ) → length (alive n marks gates k) ≡ count (λ w. (act marks (seen (suc k)) w && later k w) && true) 0 n
  unfolding alive
  living k =
      length-among (λ w. scratch marks w && spans gates k w) 0 n
      ∙ count_ext (λ w. scratch marks w && spans gates k w) (λ w. (act marks (seen (suc k)) w && later k w) && true) 0 n (λ w _ _. simp (and-true, and_assoc))

  -- the living have the slots that are not free
  pub living_slots : (k : ℕ) → k < length gates → length (full k).free + length (alive n marks gates k) ≡ (full k).size
  living_slots k h =
      let f = mid k h (fair k (omega arith)) in
      omega (arith, tally_all (full k).free, living k, f.tallies (λ r. true), count_all 0 (full k).size)

  -- up to each gate there are as many slots as were ever alive at once
  pub size_is : (k : ℕ) → k ≤ length gates → (pooled n marks gates k).size ≡ peak_to n marks gates k
  unfolding pooled peak_to
  size_is zero h = refl
  size_is (suc k) h = go (all_grow marks (pooled n marks gates k) (pooled n marks gates k) (get_or gates k []) (omega arith, inl refl)) (size_is k (omega arith))
    where
      go : Grows (pooled n marks gates k) (full k) → (pooled n marks gates k).size ≡ peak_to n marks gates k → (full k).size ≡ max (peak_to n marks gates k) (length (alive n marks gates k))
      go (l, inl e) q = omega (arith, living_slots k h)
      go (l, inr e) q = omega (arith, living_slots k h, ap length e)

  -- no more slots are free than there are, and no more slots than wires
  pub free_small : (k : ℕ) → k ≤ length gates → (length (pooled n marks gates k).free ≤ (pooled n marks gates k).size) × ((pooled n marks gates k).size ≤ n)
  free_small k h =
      let f = fair k h in
      (omega (arith, tally_all (pooled n marks gates k).free, f.tallies (λ r. true), count_all 0 (pooled n marks gates k).size), f.small)

  abbrev slot : ℕ → ℕ → ℕ
  slot k w = get_or (pooled n marks gates k).slots w 0

  keeps : (k m w : ℕ) → k ≤ m → eqb (slot k w) unslotted ≡ false → slot m w ≡ slot k w
  unfolding pooled
  keeps k zero w h e = let q : zero ≡ k = omega arith in ap (λ (j : ℕ). slot j w) q
  keeps k (suc m) w h e = go (below k (suc m) (omega arith)) (λ l. keeps k m w l e)
    where
      go : (k ≡ suc m) ⊎ (k < suc m) → (k ≤ m → slot m w ≡ slot k w) → slot (suc m) w ≡ slot k w
      go (inl q) ih = ap (λ (j : ℕ). slot j w) (sym q)
      go (inr l) ih = let t = ih (omega arith) in all_keep marks (pooled n marks gates m) (get_or gates m []) w (rw t e) ∙ t

  -- a wire that has been mentioned keeps its slot to the end
  stays : (k w : ℕ) → k ≤ length gates → w < n → act marks (seen k) w ≡ true → slot (length gates) w ≡ slot k w
  stays k w h u a = keeps k (length gates) w h ((fair k h).slotted w u ∙ ap not a)

  -- two scratch wires whose spans share a gate never share a slot
  pub apart : Apart n marks gates (slot (length gates))
  unfolding pooled
  apart k w v h hw hv aw av e = go (eqb w v) refl
    where
      f : Fair n (act marks (seen (suc k))) (later k) (full k)
      f = mid k h (fair k (omega arith))

      split : (u : ℕ) → (scratch marks u && spans gates k u) ≡ true → (act marks (seen (suc k)) u ≡ true) × (later k u ≡ true)
      split u a = both (act marks (seen (suc k)) u) (later k u) (and_assoc (scratch marks u) (seen (suc k) u) (later k u) ∙ a)

      same : slot (suc k) w ≡ slot (suc k) v
      same = sym (stays (suc k) w h hw (split w aw).0) ∙ e ∙ stays (suc k) v h hv (split v av).0

      go : (b : Bool) → eqb w v ≡ b → w ≡ v
      go true q = eqb-true w v q
      go false q =
          absurd
          (omega (
            arith,
            f.tallies (λ r. eqb (slot (suc k) w) r && true),
            count-one-le (slot (suc k) w) 0 (full k).size,
            count_two (λ u. (act marks (seen (suc k)) u && later k u) && (eqb (slot (suc k) w) (slot (suc k) u) && true)) 0 n w v (omega arith) (omega arith) (omega arith) (omega arith)
                (rw ((split w aw).0, (split w aw).1, eq-eqb (slot (suc k) w) (slot (suc k) w) refl))
                (rw ((split v av).0, (split v av).1, eq-eqb (slot (suc k) w) (slot (suc k) v) same))
                (eqb-false w v q),
          ))

  -- up to each gate the slots taken number exactly the largest count alive at one gate
  pub taken_is : (k : ℕ) → k ≤ length gates → slots_to n marks gates (slot (length gates)) k ≡ peak_to n marks gates k
  taken_is k h =
      distinct_count (map (slot (length gates)) (among (act marks (seen k)) 0 n)) (pooled n marks gates k).size inside'
      ∙ count_ext (λ y. member y (map (slot (length gates)) (among (act marks (seen k)) 0 n))) (λ s. true) 0 (pooled n marks gates k).size (λ s _ u. hit s (omega arith))
      ∙ count_all 0 (pooled n marks gates k).size
      ∙ size_is k h
    where
      inside' : (s : ℕ) → member s (map (slot (length gates)) (among (act marks (seen k)) 0 n)) ≡ true → s < (pooled n marks gates k).size
      inside' s m =
          let (w, _, u, a, e) = image_of (slot (length gates)) (act marks (seen k)) 0 n s m in
          rw (sym e ∙ stays k w h (omega arith) a) ((fair k h).under w (omega arith) a)

      hit : (s : ℕ) → s < (pooled n marks gates k).size → member s (map (slot (length gates)) (among (act marks (seen k)) 0 n)) ≡ true
      hit s u =
          let (w, b, a, e) = (fair k h).used s u in
          rw (sym e ∙ sym (stays k w h b a)) (of_image (slot (length gates)) (act marks (seen k)) 0 n w (omega arith) (omega arith) a)
