-- Rows that hold nothing from a place on.
use Rattle.std.proofs.Common.{◌≡◌, ℕ, ◌≤◌, sym, ap, ◌∙◌, arith}
use native.Mathlib.Decide.{ℕ_discrete, dec_lt}
use Rattle.elimination.specs.Arithmetic.{Arithmetic}
use Rattle.elimination.specs.Lift.{Inside}
use Rattle.strip.specs.Row.{Row, First}
use Rattle.elimination.specs.Rows.{Balance, RowSet}
use Rattle.elimination.proofs.Sums.{Coded, at, zero_plus, times_zero, sum_zero}

module _ (F : Arithmetic) (size : ℕ) (R : ℕ → Row) (inside : Inside size R) where
  -- what is left of a row, when rows are taken out of it, holds nothing there either
  pub left_inside : (v g coef : Row) → Coded F g → ((p : ℕ) → size ≤ p → v p ≡ 0) → Balance F size coef R v g → (p : ℕ) → size ≤ p → g p ≡ 0
  left_inside v g coef hg z bal p l =
      sym (zero_plus F (g p) (hg p))
      ∙ ap (F.plus (g p)) (sym (sum_zero F size (λ h. F.times (coef h) (R h p)) (λ h b. ap (F.times (coef h)) (inside h p b l) ∙ times_zero F (coef h))))
      ∙ sym (bal p) ∙ z p l

  -- and is blank if no place below size is filled
  pub left_blank : (v g coef : Row) → Coded F g → ((p : ℕ) → size ≤ p → v p ≡ 0) → Balance F size coef R v g → (h : ℕ) → First size g h → size ≤ h → (p : ℕ) → g p ≡ 0
  left_blank v g coef hg z bal h first l p = elim (dec_lt p size) [
    | yes b ↦ first.before p (omega arith)
    | no b ↦ left_inside v g coef hg z bal p (omega arith)
  ]

pub set_inside : (size : ℕ) (R R' : ℕ → Row) (g : Row) (h : ℕ) → Inside size R → ((p : ℕ) → size ≤ p → g p ≡ 0) → RowSet R h g R' → Inside size R'
set_inside size R R' g h inside z set k p b l = elim (ℕ_discrete k h) [
  | yes e ↦ ap (λ i. R' i p) e ∙ at set.here p ∙ z p l
  | no n ↦ at (set.rest k n) p ∙ inside k p b l
]
