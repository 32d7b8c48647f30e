-- Laws of bytes compared, for the loop that compares them. Assumes nothing.
use Rattle.std.proofs.Common.{◌≡◌, ℕ, suc, ◌+◌, ◌-◌, ◌<◌, ◌≤◌, Bool, true, false, ◌&&◌, eqb, List, length, get_or, drop, add-one, arith, drop_of_length-le, drop-cons}
use Rattle.answers.specs.Tally.{same}

-- the two agree from a place on
abbrev pub same_from : List ℕ → List ℕ → ℕ → ℕ → Bool
same_from one other to at = same (to - at) (drop at one) (drop at other)

-- the loop before byte `at`: what is left decides
pub record Comparing (one other : List ℕ) (from to at : ℕ) : Type 0 where
  pub rest : same_from one other to at ≡ same_from one other to from

module _ {one other : List ℕ} {from to at : ℕ} (p : Comparing one other from to at) where
  -- nothing left to compare
  pub done : to ≤ at → true ≡ same_from one other to from
  unfolding same
  done past =
      let none : to - at ≡ 0 = omega arith in
      rw none at p.rest

  -- one list is too short
  pub short-one : at < to → length one ≤ at → false ≡ same_from one other to from
  unfolding same
  short-one left past =
      let more : to - at ≡ suc (to - suc at) = omega arith in
      rw (more, drop_of_length-le one past) at p.rest

  pub short_other : at < to → at < length one → length other ≤ at → false ≡ same_from one other to from
  unfolding same
  short_other left there past =
      let more : to - at ≡ suc (to - suc at) = omega arith in
      rw (more, drop-cons one at 0, drop_of_length-le other past) at p.rest

  -- a byte of each
  next_bytes : at < to → at < length one → at < length other → (eqb (get_or one at 0) (get_or other at 0) && same_from one other to (at + 1)) ≡ same_from one other to from
  unfolding same
  next_bytes left there too =
      let more : to - at ≡ suc (to - suc at) = omega arith in
      rw add-one (rw (more, drop-cons one at 0, drop-cons other at 0) at p.rest)

  pub differ : at < to → at < length one → at < length other → eqb (get_or one at 0) (get_or other at 0) ≡ false → false ≡ same_from one other to from
  differ left there too is = rw is at (next_bytes left there too)

  pub agree : at < to → at < length one → at < length other → eqb (get_or one at 0) (get_or other at 0) ≡ true → Comparing one other from to (at + 1)
  agree left there too is = record { rest = rw is at (next_bytes left there too) }
