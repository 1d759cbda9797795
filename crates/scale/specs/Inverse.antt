-- The inverse of a code, whatever the product is.
use Rattle.std.specs.Prelude.{ℕ, zero, suc, cond, ◌==◌}

-- the code below n whose product with a is 1, and 0 if there is none
unfoldable pub inverse_below : (ℕ → ℕ → ℕ) → ℕ → ℕ → ℕ
inverse_below times zero a = 0
inverse_below times (suc n) a = cond (times a n == 1) n (inverse_below times n a)
