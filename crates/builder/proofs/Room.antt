-- What room means, and the answers of an emitter that found it or did not. Assumes nothing.
use Prim.Native.Nat.{ℕ, min, ◌+◌, ◌-◌, ◌≤◌, ◌<◌}
use mathlib.Core.Path.{◌≡◌, refl, sym, ap, ◌∙◌}
use mathlib.Core.List.{List}
use mathlib.Core.Bool.{Bool, true, false, cond, ◌||◌}
use native.Mathlib.Omega.{arith}
use borrow.Author.Tests.{ltb-false, leb-true, leb-false}
use lib.Dec.{ltb, leb}
use lib.ListN.{length}
use borrow.Rule.Slice.PartMut.{put_mid}
use Rattle.std.specs.Prelude.{Result, Ok, Err}
use Rattle.refusal.specs.declared.Refusal.TheVariants as R
use Rattle.common.proofs.Bools.{neither}
use Rattle.builder.specs.Emit.{no_room, advanced, emission, EmitsBytes}
use Rattle.builder.specs.Working.{reserved}
use Rattle.builder.specs.declared.BytecodeBuilder.{BytecodeBuilder}
use Rattle.builder.specs.declared.Unemitted.{Unemitted}
use Rattle.builder.proofs.Stores.{overwritten}

-- ---- room

pub record Roomy (b : BytecodeBuilder) (m n : ℕ) : Type 0 where
  pub sound : b.count ≤ b.len
  pub buffer : b.len + n ≤ m
  pub limit : b.len + n ≤ 65536

pub roomy : (b : BytecodeBuilder) (m n : ℕ) → no_room b m n ≡ false → Roomy b m n
unfolding no_room
roomy b m n e =
    let p = neither (ltb m (b.len + n) || ltb 65536 (b.len + n) || ltb m b.len) (ltb b.len b.count) e in
    let q = neither (ltb m (b.len + n) || ltb 65536 (b.len + n)) (ltb m b.len) p.0 in
    let r = neither (ltb m (b.len + n)) (ltb 65536 (b.len + n)) q.0 in
    record { sound = ltb-false _ _ p.1; buffer = ltb-false _ _ r.0; limit = ltb-false _ _ r.1 }

pub lacks : (b : BytecodeBuilder) (m n : ℕ) → (Roomy b m n → ⊥) → no_room b m n ≡ true
lacks b m n h = go (no_room b m n) refl
  where
    go : (t : Bool) → no_room b m n ≡ t → t ≡ true
    go true e = refl
    go false e = absurd (h (roomy b m n e))

-- a reservation that was made, and one that was not
granted_by : (t : Bool) (b : BytecodeBuilder) (n : ℕ) (x : BytecodeBuilder) → ◌≡◌ {A = Result BytecodeBuilder Unemitted} (Ok x) (cond t (Err (record { refusal = R.NoRoom; builder = b })) (Ok (advanced b n))) → (t ≡ false) × (x ≡ advanced b n)
granted_by true b n x e = absurd (cc)
granted_by false b n x e = (refl, cc)

refused_by : (t : Bool) (b : BytecodeBuilder) (n : ℕ) (x : Unemitted) → ◌≡◌ {A = Result BytecodeBuilder Unemitted} (Err x) (cond t (Err (record { refusal = R.NoRoom; builder = b })) (Ok (advanced b n))) → (t ≡ true) × (x ≡ record { refusal = R.NoRoom; builder = b })
refused_by true b n x e = (refl, cc)
refused_by false b n x e = absurd (cc)

module _ (b : BytecodeBuilder) (m n : ℕ) {r : Result BytecodeBuilder Unemitted} (a : r ≡ reserved b m n) where
  has_room : {x : BytecodeBuilder} → r ≡ Ok x → (no_room b m n ≡ false) × (x ≡ advanced b n)
  unfolding reserved
  has_room {x} d = granted_by (no_room b m n) b n x (sym d ∙ a)

  has_none : {x : Unemitted} → r ≡ Err x → (no_room b m n ≡ true) × (x ≡ record { refusal = R.NoRoom; builder = b })
  unfolding reserved
  has_none {x} d = refused_by (no_room b m n) b n x (sym d ∙ a)

-- ---- a length that is cut off where nothing fits any more

too_large : (b : BytecodeBuilder) (m n : ℕ) → 65536 < n → no_room b m n ≡ true
too_large b m n h = lacks b m n (λ r. omega (arith, r.limit))

pub capped : (b : BytecodeBuilder) (m n : ℕ) → reserved b m (min n 65537) ≡ reserved b m n
unfolding reserved
capped b m n = go (leb n 65537) refl
  where
    go : (t : Bool) → leb n 65537 ≡ t → reserved b m (min n 65537) ≡ reserved b m n
    go true e = let f : min n 65537 ≡ n = omega (arith, leb-true n 65537 e) in rw f
    go false e =
        let h = leb-false n 65537 e in
        rw (too_large b m (min n 65537) (omega arith), too_large b m n (omega arith))

-- ---- the answers

module _ (bs : List ℕ) (b : BytecodeBuilder) (s : List ℕ) (n : ℕ) (len : length bs ≡ n) {r : Result BytecodeBuilder Unemitted} (a : r ≡ reserved b (length s) n) where
  pub emitted : {x : BytecodeBuilder} {part : List ℕ} → r ≡ Ok x → part ≡ bs → EmitsBytes false false bs b s (Ok x) (put_mid b.len (x.len - b.len) s part)
  unfolding emission
  emitted {x} d e =
      let f = has_room b (length s) n a d in
      let room = roomy b (length s) n f.0 in
      let grown = ap (λ (y : BytecodeBuilder). y.len) f.1 in
      record {
        answer = rw (len, f.0, f.1);
        bytes = rw (len, f.0) (overwritten s bs b.len (x.len - b.len) (omega (arith, room)) e (omega arith));
      }

  pub refused_room : {x : Unemitted} {q : Result BytecodeBuilder Unemitted} → r ≡ Err x → q ≡ Err x → EmitsBytes false false bs b s q s
  unfolding emission
  refused_room d e = let f = has_none b (length s) n a d in record { answer = rw (e, len, f.0, f.1); bytes = rw (len, f.0) }

-- the tests before it did not hold
pub judged : (variant dimension : Bool) (bs : List ℕ) (b : BytecodeBuilder) (s : List ℕ) (r : Result BytecodeBuilder Unemitted) (after : List ℕ)
    → variant ≡ false → dimension ≡ false → EmitsBytes false false bs b s r after → EmitsBytes variant dimension bs b s r after
judged variant dimension bs b s r after e f x = rw (e, f) x

pub refused_variant : (variant dimension : Bool) (bs : List ℕ) (b : BytecodeBuilder) (s : List ℕ) {r : Result BytecodeBuilder Unemitted}
    → r ≡ Err (record { refusal = R.BadShift; builder = b }) → variant ≡ true → EmitsBytes variant dimension bs b s r s
unfolding emission
refused_variant variant dimension bs b s a e = record { answer = rw (a, e); bytes = rw e }

pub refused_dimension : (dimension : Bool) (bs : List ℕ) (b : BytecodeBuilder) (s : List ℕ) {r : Result BytecodeBuilder Unemitted}
    → r ≡ Err (record { refusal = R.BadHint; builder = b }) → dimension ≡ true → EmitsBytes false dimension bs b s r s
unfolding emission
refused_dimension dimension bs b s a e = record { answer = rw (a, e); bytes = rw e }
