-- Sums, products and combinations of codes, as elements.
use Rattle.std.proofs.Common.{◌≡◌, ℕ, zero, suc, ◌<◌, ◌≤◌, sym, refl, ap, ◌∙◌, ap₂, arith}
use native.Mathlib.Decide.{dec_lt}
use mathlib.Core.Logic.{dif_neg}
use Rattle.linear.specs.Codes.{CodeField, Code, code_eq, coded, codes}
use Rattle.linear.specs.Linear.{comb}
use Rattle.linear.specs.Sums.{fold}
use Rattle.linear.specs.Sums.{sum as total}
use Rattle.linear.proofs.Codes.{coded_number, plus_number, times_number}
use Rattle.linear.proofs.Ring as ring
use Rattle.scale.specs.Model.{ScaleModel}
use Rattle.strip.specs.Row.{Row}
use Rattle.elimination.specs.Arithmetic.{arithmetic, plus_is, times_is}
use Rattle.elimination.specs.Lift.{Element, scalars, some_code, up}
use Rattle.elimination.specs.Rows.{added, sum, combine}

-- between numbers and codes
module _ {q : ℕ} {plus times : ℕ → ℕ → ℕ} {neg inv : ℕ → ℕ} (C : CodeField q plus times neg inv) (h : 0 < q) where
  coded_is : (x : ℕ) (k : Code q) → x ≡ k.0 → coded h x ≡ k
  coded_is x k e = code_eq (coded_number h x (rw e k.1) ∙ e)

  coded_zero : coded h 0 ≡ (codes C).zero
  unfolding codes
  coded_zero = coded_is 0 (codes C).zero refl

  coded_one : coded h 1 ≡ (codes C).one
  unfolding codes
  coded_one = coded_is 1 (codes C).one refl

  coded_plus : (x y : ℕ) → x < q → y < q → coded h (plus x y) ≡ (codes C).plus (coded h x) (coded h y)
  coded_plus x y l k =
      coded_is (plus x y) ((codes C).plus (coded h x) (coded h y)) (sym (plus_number C (coded h x) (coded h y) ∙ ap₂ plus (coded_number h x l) (coded_number h y k)))

  coded_times : (x y : ℕ) → x < q → y < q → coded h (times x y) ≡ (codes C).times (coded h x) (coded h y)
  coded_times x y l k =
      coded_is (times x y) ((codes C).times (coded h x) (coded h y)) (sym (times_number C (coded h x) (coded h y) ∙ ap₂ times (coded_number h x l) (coded_number h y k)))

  coded_same : (x y : ℕ) → x < q → y < q → coded h x ≡ coded h y → x ≡ y
  coded_same x y l k e = sym (coded_number h x l) ∙ ap (λ (c : Code q). c.0) e ∙ coded_number h y k

module _ (M : ScaleModel) where
  pub up_zero : up M 0 ≡ (scalars M).zero
  unfolding up scalars
  up_zero = coded_zero M.field (some_code M)

  pub up_one : up M 1 ≡ (scalars M).one
  unfolding up scalars
  up_one = coded_one M.field (some_code M)

  pub up_same : (x y : ℕ) → x < M.q → y < M.q → up M x ≡ up M y → x ≡ y
  unfolding up
  up_same x y l k e = coded_same M.field (some_code M) x y l k e

  pub up_none : (x : ℕ) → x < M.q → up M x ≡ (scalars M).zero → x ≡ 0
  up_none x l e = up_same x 0 l (some_code M) (e ∙ sym up_zero)

  pub up_is_zero : {x : ℕ} → x ≡ 0 → up M x ≡ (scalars M).zero
  up_is_zero e = ap (up M) e ∙ up_zero

  pub up_off : (x : ℕ) → M.q ≤ x → up M x ≡ (scalars M).zero
  unfolding up scalars codes
  up_off x l = dif_neg (dec_lt x M.q) (λ k. omega arith) (λ k. (x, k)) (λ _. (0, some_code M)) ∙ code_eq refl

  pub up_plus : (x y : ℕ) → x < M.q → y < M.q → up M ((arithmetic M).plus x y) ≡ (scalars M).plus (up M x) (up M y)
  unfolding up scalars
  up_plus x y l k = ap (coded (some_code M)) (plus_is M x y l k) ∙ coded_plus M.field (some_code M) x y l k

  up_times_codes : (x y : ℕ) → x < M.q → y < M.q → up M ((arithmetic M).times x y) ≡ (scalars M).times (up M x) (up M y)
  unfolding up scalars
  up_times_codes x y l k = ap (coded (some_code M)) (times_is M x y l k) ∙ coded_times M.field (some_code M) x y l k

  pub up_times : (x y : ℕ) → up M ((arithmetic M).times x y) ≡ (scalars M).times (up M x) (up M y)
  up_times x y = elim (dec_lt x M.q) [
    | no n ↦ (
        let l : M.q ≤ x = omega arith in
        up_is_zero ((arithmetic M).times_off x y l) ∙ sym (ap (λ z. (scalars M).times z (up M y)) (up_off x l) ∙ ring.zero_times (scalars M) (up M y))
        )
    | yes l ↦ elim (dec_lt y M.q) [
      | yes k ↦ up_times_codes x y l k
      | no n ↦ (
          let k : M.q ≤ y = omega arith in
          up_is_zero ((arithmetic M).times_comm x y ∙ (arithmetic M).times_off y x k) ∙ sym (ap ((scalars M).times (up M x)) (up_off y k) ∙ ring.times_zero (scalars M) (up M x))
          )
    ]
  ]

  pub up_added : (f g : Row) (c p : ℕ) → f p < M.q → up M (added (arithmetic M) f c g p) ≡ (scalars M).plus (up M (f p)) ((scalars M).times (up M c) (up M (g p)))
  up_added f g c p l = up_plus (f p) ((arithmetic M).times c (g p)) l ((arithmetic M).times_code c (g p)) ∙ ap ((scalars M).plus (up M (f p))) (up_times c (g p))

  sum_below : (n : ℕ) (t : ℕ → ℕ) → sum (arithmetic M) n t < M.q
  unfolding sum
  sum_below zero t = some_code M
  sum_below (suc n) t = (arithmetic M).plus_code (sum (arithmetic M) n t) (t n)

  pub up_sum : (n : ℕ) (t : ℕ → ℕ) → ((i : ℕ) → t i < M.q) → up M (sum (arithmetic M) n t) ≡ total (scalars M) n (λ i. up M (t i))
  unfolding sum fold
  up_sum zero t low = up_zero
  up_sum (suc n) t low = up_plus (sum (arithmetic M) n t) (t n) (sum_below n t) (low n) ∙ ap (λ x. (scalars M).plus x (up M (t n))) (up_sum n t low)

  terms : (n : ℕ) (f g : ℕ → Element M) → ((i : ℕ) → f i ≡ g i) → total (scalars M) n f ≡ total (scalars M) n g
  unfolding fold
  terms zero f g e = refl
  terms (suc n) f g e = ap₂ (scalars M).plus (terms n f g e) (e n)

  pub up_combine : (n : ℕ) (a : ℕ → ℕ) (R : ℕ → Row) (p : ℕ) → up M (combine (arithmetic M) n a R p) ≡ comb (scalars M) n (λ h. up M (a h)) (λ h u. up M (R h u)) p
  up_combine n a R p = up_sum n (λ h. (arithmetic M).times (a h) (R h p)) (λ h. (arithmetic M).times_code (a h) (R h p)) ∙ terms n _ _ (λ h. up_times (a h) (R h p))
