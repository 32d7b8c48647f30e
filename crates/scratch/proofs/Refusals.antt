-- Refusal 14: `accepted` says no exactly where a clause of document 01's line is broken. Assumes nothing.
use mathlib.Core.Path.{◌≡◌, refl, sym, ap, ◌∙◌}
use mathlib.Core.Bool.{Bool, true, false, ◌&&◌, true≢false}
use mathlib.Core.List.{List, [], ◌∷◌}
use mathlib.Core.Logic.{◌⊎◌, inl, inr}
use Prim.Native.Nat.{ℕ, zero, suc, ◌<◌}
use native.Mathlib.Omega.{arith}
use lib.ListN.{length, get_or}
use lib.Dec.{eqb, leb}
use borrow.Author.Tests.{eqb-false, leb-false}
use Rattle.common.specs.Lists.{all_below}
use Rattle.scratch.specs.Accept.{most_wires, most_gates, most_mentions, closes, accepted, Broken}
use Rattle.common.proofs.Below.{below_at, member-at, not-below}
use Rattle.scratch.specs.Working.Arrays.{start}
use Rattle.scratch.proofs.Cut.{close_at, close_last, Good, good}

-- ends that do not close: one falls, or the last is not the count
pub unclosed : (from count : ℕ) (ends : List ℕ) → closes from count ends ≡ false
    → ((k : ℕ) × (k < length ends) × (get_or ends k 0 < start from ends k)) ⊎ (start from ends (length ends) ≡ count → ⊥)
unclosed from count [] h = inr (eqb-false from count h)
unclosed from count (end ∷ ends) h = go (leb from end) refl h (unclosed end count ends)
  where
    last : (es : List ℕ) → (start end es (length es) ≡ count → ⊥) → start from (end ∷ es) (suc (length es)) ≡ count → ⊥
    last [] f = f
    last (e ∷ es) f = f

    at : (k : ℕ) → k < length ends → get_or ends k 0 < start end ends k → (k : ℕ) × (k < length (end ∷ ends)) × (get_or (end ∷ ends) k 0 < start from (end ∷ ends) k)
    at zero l f = (1, omega arith, f)
    at (suc k) l f = (suc (suc k), omega arith, f)

    later : ((k : ℕ) × (k < length ends) × (get_or ends k 0 < start end ends k)) ⊎ (start end ends (length ends) ≡ count → ⊥)
        → ((k : ℕ) × (k < length (end ∷ ends)) × (get_or (end ∷ ends) k 0 < start from (end ∷ ends) k)) ⊎ (start from (end ∷ ends) (length (end ∷ ends)) ≡ count → ⊥)
    later (inl (k, l, f)) = inl (at k l f)
    later (inr f) = inr (last ends f)

    go : (b : Bool) → leb from end ≡ b → (b && closes end count ends) ≡ false
        → (closes end count ends ≡ false → ((k : ℕ) × (k < length ends) × (get_or ends k 0 < start end ends k)) ⊎ (start end ends (length ends) ≡ count → ⊥))
        → ((k : ℕ) × (k < length (end ∷ ends)) × (get_or (end ∷ ends) k 0 < start from (end ∷ ends) k)) ⊎ (start from (end ∷ ends) (length (end ∷ ends)) ≡ count → ⊥)
    go true e h f = later (f h)
    go false e h f = inl (0, omega arith, leb-false from end e)

module _ (wires : ℕ) (ends mentions marks slots : List ℕ) where
  judge : (a b c d e f g : Bool) → leb wires most_wires ≡ a → leb (length ends) most_gates ≡ b → leb (length mentions) most_mentions ≡ c → closes 0 (length mentions) ends ≡ d
      → all_below wires mentions ≡ e → eqb (length marks) wires ≡ f → eqb (length slots) wires ≡ g → accepted wires ends mentions marks slots ≡ (a && (b && (c && (d && (e && (f && g))))))
  unfolding accepted
  judge a b c d e f g ha hb hc hd he hf hg = rw (ha, hb, hc, hd, he, hf, hg)

  no_good : Good wires ends mentions marks slots → Broken wires ends mentions marks slots → ⊥
  no_good ok (Broken.many_wires h) = omega (arith, ok.few)
  no_good ok (Broken.many_gates h) = omega (arith, ok.gates)
  no_good ok (Broken.many_mentions h) = omega (arith, ok.listed)
  no_good ok (Broken.ends_fall k l h) = omega (arith, close_at 0 (length mentions) ends (suc k) ok.cut l)
  no_good ok (Broken.ends_elsewhere k l h) = h (ap (start 0 ends) l ∙ close_last 0 (length mentions) ends ok.cut)
  no_good ok (Broken.mentions_without_gates l h) = omega (arith, ap (start 0 ends) l, close_last 0 (length mentions) ends ok.cut)
  no_good ok (Broken.unknown_wire i l h) = omega (arith, below_at wires mentions i ok.inside l)
  no_good ok (Broken.other_marks h) = h ok.marked
  no_good ok (Broken.other_slots h) = h ok.slotted

  pub refused : Broken wires ends mentions marks slots → accepted wires ends mentions marks slots ≡ false
  refused f = go (accepted wires ends mentions marks slots) refl
    where
      go : (b : Bool) → accepted wires ends mentions marks slots ≡ b → accepted wires ends mentions marks slots ≡ false
      go true e = absurd (no_good (good wires ends mentions marks slots e) f)
      go false e = e

  pub ends_broken : closes 0 (length mentions) ends ≡ false → Broken wires ends mentions marks slots
  ends_broken h = at (unclosed 0 (length mentions) ends h)
    where
      falls : (k : ℕ) → k < length ends → get_or ends k 0 < start 0 ends k → Broken wires ends mentions marks slots
      falls zero l f = absurd (omega arith)
      falls (suc k) l f = Broken.ends_fall k l f

      more : (n : ℕ) → (0 ≡ n → ⊥) → 0 < n
      more n f = omega arith

      elsewhere : (n : ℕ) → n ≡ length ends → (start 0 ends n ≡ length mentions → ⊥) → Broken wires ends mentions marks slots
      elsewhere zero q f = Broken.mentions_without_gates (sym q) (omega (arith, more (length mentions) f))
      elsewhere (suc k) q f = Broken.ends_elsewhere k q f

      at : ((k : ℕ) × (k < length ends) × (get_or ends k 0 < start 0 ends k)) ⊎ (start 0 ends (length ends) ≡ length mentions → ⊥) → Broken wires ends mentions marks slots
      at (inl (k, l, f)) = falls k l f
      at (inr f) = elsewhere (length ends) refl f

  pub wire_broken : all_below wires mentions ≡ false → Broken wires ends mentions marks slots
  wire_broken h =
      let (x, m, q) = not-below wires mentions h in
      let (i, l, e) = member-at x mentions m in
      Broken.unknown_wire i l (omega arith)

  pub broken : accepted wires ends mentions marks slots ≡ false → Broken wires ends mentions marks slots
  broken h =
      go (leb wires most_wires) (leb (length ends) most_gates) (leb (length mentions) most_mentions) (closes 0 (length mentions) ends) (all_below wires mentions) (eqb (length marks) wires) (eqb (length slots) wires)
      refl refl refl refl refl refl refl
    where
      go : (a b c d e f g : Bool) → leb wires most_wires ≡ a → leb (length ends) most_gates ≡ b → leb (length mentions) most_mentions ≡ c → closes 0 (length mentions) ends ≡ d
          → all_below wires mentions ≡ e → eqb (length marks) wires ≡ f → eqb (length slots) wires ≡ g → Broken wires ends mentions marks slots
      go false b c d e f g ha hb hc hd he hf hg = Broken.many_wires (leb-false wires most_wires ha)
      go true false c d e f g ha hb hc hd he hf hg = Broken.many_gates (leb-false (length ends) most_gates hb)
      go true true false d e f g ha hb hc hd he hf hg = Broken.many_mentions (leb-false (length mentions) most_mentions hc)
      go true true true false e f g ha hb hc hd he hf hg = ends_broken hd
      go true true true true false f g ha hb hc hd he hf hg = wire_broken he
      go true true true true true false g ha hb hc hd he hf hg = Broken.other_marks (eqb-false (length marks) wires hf)
      go true true true true true true false ha hb hc hd he hf hg = Broken.other_slots (eqb-false (length slots) wires hg)
      go true true true true true true true ha hb hc hd he hf hg = absurd (true≢false (sym (judge true true true true true true true ha hb hc hd he hf hg) ∙ h))
