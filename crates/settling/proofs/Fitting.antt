-- That a type with 512 strips in it is no larger than memory, which is asked where such an array is lent. Assumes nothing.
use Rattle.std.proofs.Common.{ℕ, ◌*◌, ◌<◌, ◌≤◌, arith}
use Rattle.std.proofs.Math.Nat.{mul-le-mul_right}

-- 512 strips of s bytes fit, if n of them do and n is no less
pub fits : (n s : ℕ) → 512 ≤ n → n * s < 9223372036854775808 → 512 * s < 9223372036854775808
fits n s h k = omega (arith, mul-le-mul_right {m = 512} {n = n} s h)
