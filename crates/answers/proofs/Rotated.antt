-- A word rotated left by five bits, by arithmetic. Assumes nothing.
use Rattle.std.proofs.Common.{◌≡◌, ℕ, ◌+◌, ◌*◌, ◌/◌, ◌%◌, ◌^◌, ◌<◌, w64, arith}
use Rattle.std.specs.Int.{rotate_left}
use Rattle.std.proofs.lemmas.Nat.{or_shifted}

pub rotated : (n : ℕ) → n < 2 ^ 64 → rotate_left w64 n 5 ≡ (n * 32 % 2 ^ 64 + n / 2 ^ 59) % 2 ^ 64
rotated n word =
    let high : n * 32 % 2 ^ 64 ≡ n % 2 ^ 59 * 2 ^ 5 = omega arith in
    rw (high, or_shifted (n % 2 ^ 59) 5 (n / 2 ^ 59) (omega arith)) (omega arith)
