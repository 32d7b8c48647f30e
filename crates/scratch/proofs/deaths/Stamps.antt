-- The stamps of `last_mentions`: the one that a wire bears after all gates is its last mention. Assumes nothing.
use mathlib.Core.Path.{◌≡◌, refl, sym, ap, ◌∙◌}
use mathlib.Core.Bool.{Bool, true, false, cond, ◌&&◌, ◌||◌, and-false, true≢false}
use mathlib.Core.List.{List, [], ◌∷◌}
use mathlib.Core.Logic.{◌⊎◌, inl, inr}
use Prim.Native.Nat.{ℕ, zero, suc, ◌+◌, ◌-◌, ◌≤◌, ◌<◌}
use native.Mathlib.Omega.{arith}
use lib.ListN.{length, get_or, set, drop, replicate, length-set, length-replicate, get_or-replicate}
use lib.Seq.{get_or-set_same, get_or-set_other, drop-cons, drop-length}
use lib.Dec.{eqb}
use borrow.Author.Tests.{eqb-false, eqb-true, eq-eqb, ne_eqb}
use Rattle.common.specs.Lists.{member}
use Rattle.scratch.specs.Gates.{gates_of, mentioned, last_at, scratch, among}
use Rattle.scratch.specs.Policies.{dying}
use Rattle.scratch.specs.Working.Arrays.{stamped, stamped_to}
use Rattle.scratch.proofs.Count.{among_ext}
use Rattle.scratch.proofs.Cut.{gates_length}

length-stamped : (g : ℕ) (last ws : List ℕ) → length (stamped g last ws) ≡ length last
length-stamped g last [] = refl
length-stamped g last (w ∷ ws) = length-stamped g (set last w g) ws ∙ length-set last w g

stamped_at : (g : ℕ) (last ws : List ℕ) (w : ℕ) → w < length last → get_or (stamped g last ws) w 0 ≡ cond (member w ws) g (get_or last w 0)
stamped_at g last [] w h = refl
stamped_at g last (x ∷ ws) w h = stamped_at g (set last x g) ws w (rw length-set h) ∙ go (eqb x w) refl
  where
    same : (b : Bool) → cond b g g ≡ g
    same true = refl
    same false = refl

    go : (b : Bool) → eqb x w ≡ b → cond (member w ws) g (get_or (set last x g) w 0) ≡ cond (eqb x w || member w ws) g (get_or last w 0)
    go true e = let q = eqb-true x w e in rw (e, q, get_or-set_same last w g 0 h) (same (member w ws))
    go false e = rw (e, get_or-set_other last x w g 0 (λ q. eqb-false x w e (sym q)))

module _ (gates : List (List ℕ)) (few : length gates ≤ 8192) where
  stamp_of : ℕ → ℕ → ℕ
  stamp_of k w = get_or (stamped_to gates k (replicate 8192 8192)) w 0

  stamps_length : (k : ℕ) → length (stamped_to gates k (replicate 8192 8192)) ≡ 8192
  stamps_length zero = length-replicate {A = ℕ} 8192 8192
  stamps_length (suc k) = length-stamped k (stamped_to gates k (replicate 8192 8192)) (get_or gates k []) ∙ stamps_length k

  module _ (w : ℕ) (hw : w < 8192) where
    stamp-suc : (k : ℕ) → stamp_of (suc k) w ≡ cond (member w (get_or gates k [])) k (stamp_of k w)
    unfolding stamp_of
    stamp-suc k = stamped_at k (stamped_to gates k (replicate 8192 8192)) (get_or gates k []) w (omega (arith, stamps_length k))

    early : (k : ℕ) → (stamp_of k w < k) ⊎ (stamp_of k w ≡ 8192)
    unfolding stamp_of
    early zero = inr (get_or-replicate {A = ℕ} 8192 w 8192 0 hw)
    early (suc k) = go (member w (get_or gates k [])) (stamp-suc k) (early k)
      where
        go : (b : Bool) → stamp_of (suc k) w ≡ cond b k (stamp_of k w) → (stamp_of k w < k) ⊎ (stamp_of k w ≡ 8192) → (stamp_of (suc k) w < suc k) ⊎ (stamp_of (suc k) w ≡ 8192)
        go true e i = inl (omega arith)
        go false e (inl i) = inl (omega arith)
        go false e (inr i) = inr (e ∙ i)

    stays : (m k : ℕ) → k + m ≡ length gates → mentioned (drop k gates) w ≡ false → stamp_of (length gates) w ≡ stamp_of k w
    stays zero k h d = let q : length gates ≡ k = omega arith in ap (λ (j : ℕ). stamp_of j w) q
    stays (suc m) k h d = go (member w (get_or gates k [])) (mentioned (drop (suc k) gates) w) refl refl (sym (ap (λ (l : List (List ℕ)). mentioned l w) (drop-cons gates k [] (omega arith))) ∙ d) (stays m (suc k) (omega arith))
      where
        go : (a b : Bool) → member w (get_or gates k []) ≡ a → mentioned (drop (suc k) gates) w ≡ b → (member w (get_or gates k []) || mentioned (drop (suc k) gates) w) ≡ false
            → (mentioned (drop (suc k) gates) w ≡ false → stamp_of (length gates) w ≡ stamp_of (suc k) w) → stamp_of (length gates) w ≡ stamp_of k w
        go true b ea eb o f = absurd (true≢false (rw ea at o))
        go false true ea eb o f = absurd (true≢false (rw (ea, eb) at o))
        go false false ea eb o f = f eb ∙ stamp-suc k ∙ ap (λ (b : Bool). cond b k (stamp_of k w)) ea

    moves : (m k : ℕ) → k + m ≡ length gates → mentioned (drop k gates) w ≡ true → k ≤ stamp_of (length gates) w
    moves zero k h d =
        let q : k ≡ length gates = omega arith in
        let e : drop k gates ≡ [] = rw q (drop-length gates) in
        absurd (true≢false (sym d ∙ ap (λ (l : List (List ℕ)). mentioned l w) e))
    moves (suc m) k h d = go (mentioned (drop (suc k) gates) w) refl (sym (ap (λ (l : List (List ℕ)). mentioned l w) (drop-cons gates k [] (omega arith))) ∙ d) (moves m (suc k) (omega arith))
      where
        here : (a : Bool) → stamp_of (length gates) w ≡ cond a k (stamp_of k w) → (a || false) ≡ true → k ≤ stamp_of (length gates) w
        here true e t = omega arith
        here false e t = absurd (true≢false (sym t))

        go : (b : Bool) → mentioned (drop (suc k) gates) w ≡ b → (member w (get_or gates k []) || mentioned (drop (suc k) gates) w) ≡ true
            → (mentioned (drop (suc k) gates) w ≡ true → suc k ≤ stamp_of (length gates) w) → k ≤ stamp_of (length gates) w
        go true e o f = omega (arith, f e)
        go false e o f = here (member w (get_or gates k [])) (stays m (suc k) (omega arith) e ∙ stamp-suc k) (rw e at o)

    stamp_is : (g : ℕ) → g < length gates → eqb (stamp_of (length gates) w) g ≡ last_at gates g w
    stamp_is g h = go (mentioned (drop (suc g) gates) w) refl
      where
        here : (a : Bool) → stamp_of (length gates) w ≡ cond a g (stamp_of g w) → (stamp_of g w < g) ⊎ (stamp_of g w ≡ 8192) → eqb (stamp_of (length gates) w) g ≡ (a && true)
        here true e i = eq-eqb (stamp_of (length gates) w) g e
        here false e (inl i) = ne_eqb (stamp_of (length gates) w) g (λ q. omega arith)
        here false e (inr i) = ne_eqb (stamp_of (length gates) w) g (λ q. omega arith)

        go : (b : Bool) → mentioned (drop (suc g) gates) w ≡ b → eqb (stamp_of (length gates) w) g ≡ last_at gates g w
        go true e = ne_eqb (stamp_of (length gates) w) g (λ q. omega (arith, moves (length gates - suc g) (suc g) (omega arith) e)) ∙ rw (e, and-false)
        go false e = rw e (here (member w (get_or gates g [])) (stays (length gates - suc g) (suc g) (omega arith) e ∙ stamp-suc g) (early g))

  pub dying_is : (n : ℕ) (marks : List ℕ) (g : ℕ) → n ≤ 8192 → g < length gates
      → among (λ w. scratch marks w && eqb (get_or (stamped_to gates (length gates) (replicate 8192 8192)) w 0) g) 0 n ≡ dying n marks gates g
  unfolding dying stamp_of
  dying_is n marks g h l =
      among_ext (λ w. scratch marks w && eqb (get_or (stamped_to gates (length gates) (replicate 8192 8192)) w 0) g) (λ w. scratch marks w && last_at gates g w) 0 n
      (λ w _ u. ap (λ (b : Bool). scratch marks w && b) (stamp_is w (omega arith) g l))

  pub stamp_low : (w : ℕ) → w < 8192 → get_or (stamped_to gates (length gates) (replicate 8192 8192)) w 0 ≤ 8192
  unfolding stamp_of
  stamp_low w h = go (early w h (length gates))
    where
      go : (stamp_of (length gates) w < length gates) ⊎ (stamp_of (length gates) w ≡ 8192) → stamp_of (length gates) w ≤ 8192
      go (inl i) = omega arith
      go (inr i) = omega arith

-- the loop of `stamp` before mention j
abbrev pub Stamping : List ℕ → List ℕ → ℕ → List ℕ → ℕ → Type 0
Stamping gate last₀ g last j = stamped g last (drop j gate) ≡ stamped g last₀ gate

-- the stamps after all gates
module _ (ends mentions marks : List ℕ) (few : length ends ≤ 8192) (last : List ℕ) (e : last ≡ stamped_to (gates_of ends mentions) (length ends) (replicate 8192 8192)) where
  to_all : last ≡ stamped_to (gates_of ends mentions) (length (gates_of ends mentions)) (replicate 8192 8192)
  to_all = rw (gates_length 0 ends mentions) e

  pub last_low : (w : ℕ) → w < 8192 → get_or last w 0 ≤ 8192
  last_low w h = rw to_all (stamp_low (gates_of ends mentions) (rw (gates_length 0 ends mentions) few) w h)

  pub last_dying : (g : ℕ) → length marks ≤ 8192 → g < length ends → among (λ w. scratch marks w && eqb (get_or last w 0) g) 0 (length marks) ≡ dying (length marks) marks (gates_of ends mentions) g
  last_dying g l h =
      ap (λ (l : List ℕ). among (λ w. scratch marks w && eqb (get_or l w 0) g) 0 (length marks)) to_all
      ∙ dying_is (gates_of ends mentions) (rw (gates_length 0 ends mentions) few) (length marks) marks g l (omega (arith, gates_length 0 ends mentions))
