-- Sums of rows that hold nothing from a place on hold nothing there.
use Rattle.std.proofs.Common.{◌≡◌, ℕ, ◌+◌, ◌-◌, ◌≤◌, ap, ◌∙◌, ap₂, arith}
use mathlib.Core.Logic.{ite, if_neg}
use native.Mathlib.Decide.{dec_lt}
use Rattle.linear.specs.Sums.{sum as total}
use Rattle.linear.proofs.Ring.{times_zero}
use Rattle.linear.proofs.Sums.{sum_zero}
use Rattle.scale.specs.Model.{ScaleModel}
use Rattle.elimination.specs.Arithmetic.{arithmetic}
use Rattle.elimination.specs.Lift.{Element, up, scalars, Inside}
use Rattle.strip.specs.Row.{Row}
use Rattle.elimination.proofs.Lifting.{up_is_zero, up_none}
use Rattle.elimination.proofs.Sums.{Coded}

module _ (M : ScaleModel) (size : ℕ) (R : ℕ → Row) (inside : Inside size R) where
  pub terms_inside : (c : ℕ → Element M) (from to : ℕ) → to ≤ size → (p : ℕ) → size ≤ p
      → total (scalars M) (to - from) (λ i. (scalars M).times (c (from + i)) (up M (R (from + i) p))) ≡ (scalars M).zero
  terms_inside c from to l p b =
      sum_zero (scalars M) (to - from) _ (λ i k. ap ((scalars M).times (c (from + i))) (up_is_zero M (inside (from + i) p (omega arith) b)) ∙ times_zero (scalars M) _)

  pub gain_inside : (v : Row) → Coded (arithmetic M) v → (c : ℕ → Element M) (from to : ℕ) → to ≤ size
      → ((p : ℕ) → up M (v p) ≡ total (scalars M) (to - from) (λ i. (scalars M).times (c (from + i)) (up M (R (from + i) p)))) → (p : ℕ) → size ≤ p → v p ≡ 0
  gain_inside v hv c from to l is p b = up_none M (v p) (hv p) (is p ∙ terms_inside c from to l p b)

  pub rest_inside : (v r : Row) → Coded (arithmetic M) v → (c : ℕ → Element M) (from to : ℕ) → to ≤ size → ((p : ℕ) → size ≤ p → r p ≡ 0)
      → ((p : ℕ) → up M (v p) ≡ (scalars M).plus (ite (dec_lt p to) (scalars M).zero (up M (r p))) (total (scalars M) (to - from) (λ i. (scalars M).times (c (from + i)) (up M (R (from + i) p)))))
      → (p : ℕ) → size ≤ p → v p ≡ 0
  rest_inside v r hv c from to l z is p b =
      up_none M (v p) (hv p) (
      is p ∙ ap₂ (scalars M).plus (if_neg (dec_lt p to) (λ k. omega arith) (scalars M).zero (up M (r p)) ∙ up_is_zero M (z p b)) (terms_inside c from to l p b)
      ∙ (scalars M).plus_zero (scalars M).zero)
