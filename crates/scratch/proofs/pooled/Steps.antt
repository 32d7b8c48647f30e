-- What the loops of `allot` and `release` keep as they go. Assumes nothing.
use Rattle.std.specs.Prelude.{◌≡◌, ℕ, suc, ◌+◌, ◌-◌, ◌≤◌, ◌<◌, List, ◌∷◌, true, length, get_or, drop}
use Rattle.std.proofs.Common.{refl, sym, ap, ◌∙◌, arith}
use mathlib.Core.Bool.{or-true}
use borrow.Author.Tests.{eq-eqb}
use Rattle.common.specs.Lists.{member}
use Rattle.scratch.specs.declared.stock.Stock.{Stock}
use Rattle.scratch.specs.Policies.{meet_all, give_all}
use Rattle.scratch.specs.Working.Arrays.{chain}
use Rattle.scratch.specs.Working.{pool_of}
use Rattle.scratch.proofs.deaths.Chains.{length-chain}

-- before mention j of the gate
pub record Allotting (gate marks slots₀ : List ℕ) (stock₀ : Stock) (slots : List ℕ) (stock : Stock) (j : ℕ) : Type 0 where
  pub few : stock.size ≤ stock₀.size + j
  pub kept : length slots ≡ length slots₀
  pub rest : meet_all marks (pool_of slots stock) (drop j gate) ≡ meet_all marks (pool_of slots₀ stock₀) gate

-- with `left` wires to go from w on
pub record Releasing (link slots : List ℕ) (stock₀ : Stock) (dead : List ℕ) (stock : Stock) (w left : ℕ) : Type 0 where
  pub size : stock.size ≡ stock₀.size
  pub room : length stock.free + left ≤ 8192
  pub slotted : (x : ℕ) → member x (chain link left w) ≡ true → x < length slots
  pub rest : give_all slots stock.free (chain link left w) ≡ give_all slots stock₀.free dead

pub release_start : (link slots : List ℕ) (stock : Stock) (count w left : ℕ) → left ≡ count → length stock.free + length (chain link count w) ≤ 8192
    → ((x : ℕ) → member x (chain link count w) ≡ true → x < length slots) → Releasing link slots stock (chain link count w) stock w left
release_start link slots stock count w left e r h = record { size = refl; room = omega (arith, length-chain link count w); slotted = rw e h; rest = rw e }

chain_next : (link : List ℕ) (left w : ℕ) → 0 < left → chain link left w ≡ w ∷ chain link (left - 1) (get_or link w 0)
chain_next link left w h = let e : left ≡ suc (left - 1) = omega arith in ap (λ (k : ℕ). chain link k w) e

module _ {link slots : List ℕ} {stock₀ : Stock} {dead : List ℕ} {stock : Stock} {w left : ℕ} (r : Releasing link slots stock₀ dead stock w left) (h : 0 < left) where
  -- the wire at hand has a slot, so it is within the slots and the links
  pub release_here : w < length slots
  release_here = r.slotted w (rw (chain_next link left w h, eq-eqb w w refl))

  pub release_more : {stock' : Stock} {left' : ℕ} → left' ≡ left - 1 → stock'.free ≡ get_or slots w 0 ∷ stock.free → stock'.size ≡ stock.size
      → Releasing link slots stock₀ dead stock' (get_or link w 0) left'
  release_more {stock'} {left'} e f z =
      record {
        size = z ∙ r.size;
        room = omega (arith, r.room, ap length f);
        slotted = λ x m. r.slotted x (rw (chain_next link left w h) (let t = rw e at m in rw (t, or-true)));
        rest = rw (e, f) (sym (ap (give_all slots stock.free) (chain_next link left w h)) ∙ r.rest);
      }
