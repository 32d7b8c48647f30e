-- Laws of `stack`. Assumes nothing.
use Rattle.std.specs.Prelude.{◌≡◌, ℕ, zero, suc, ◌+◌, ◌≤◌, ◌<◌, List, ◌∷◌, length, set}
use Rattle.std.proofs.Common.{refl, ap, arith, add-one}
use Rattle.std.proofs.Math.Seq.{get_or-set_same, get_or-set_other}
use Rattle.scratch.specs.Working.Arrays.{stack}

pub length_stack : (xs : List ℕ) (k : ℕ) → length (stack xs k) ≡ k
length_stack xs zero = refl
length_stack xs (suc k) = ap suc (length_stack xs k)

stack_set : (xs : List ℕ) (k i v : ℕ) → k ≤ i → stack (set xs i v) k ≡ stack xs k
stack_set xs zero i v h = refl
stack_set xs (suc k) i v h = rw (get_or-set_other xs i k v 0 (omega arith), stack_set xs k i v (omega arith))

pub stack_push : (xs : List ℕ) (i v : ℕ) → i < length xs → stack (set xs i v) (i + 1) ≡ v ∷ stack xs i
stack_push xs i v h = rw (add-one, get_or-set_same xs i v 0 h, stack_set xs i i v (omega arith))
