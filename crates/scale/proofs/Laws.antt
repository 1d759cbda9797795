-- What follows from the laws of a scale, said of its codes. Assumes nothing.
use Rattle.std.proofs.Common.{◌≡◌, ℕ, ◌<◌, ap, arith}
use Rattle.linear.specs.Codes.{Code, codes}
use Rattle.linear.proofs.Ring as ring
use Rattle.scale.specs.Model.{ScaleModel}

module _ (M : ScaleModel) where
  pub zero_code : 0 < M.q
  zero_code = omega (arith, M.field.two)

  pub zero_plus : (a : ℕ) → a < M.q → M.plus 0 a ≡ a
  unfolding codes
  zero_plus a h = ap (λ (x : Code M.q). x.0) (ring.zero_plus (codes M.field) (a, h))

  pub times_zero : (a : ℕ) → a < M.q → M.times a 0 ≡ 0
  unfolding codes
  times_zero a h = ap (λ (x : Code M.q). x.0) (ring.times_zero (codes M.field) (a, h))

  pub zero_times : (a : ℕ) → a < M.q → M.times 0 a ≡ 0
  unfolding codes
  zero_times a h = ap (λ (x : Code M.q). x.0) (ring.zero_times (codes M.field) (a, h))
