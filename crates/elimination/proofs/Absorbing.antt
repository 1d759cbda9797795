-- A row that goes into a table, in elements.
use Rattle.std.proofs.Common.{◌≡◌, ℕ, ◌<◌, ◌≤◌, sym, refl, ap, ◌∙◌, subst, ap₂, inl, inr, arith}
use native.Mathlib.Decide.{ℕ_discrete, dec_le}
use Rattle.linear.specs.Linear.{comb}
use Rattle.linear.proofs.Ring.{ring, zero_plus}
use Rattle.linear.proofs.Spans.{comb_neg}
use Rattle.scale.specs.Model.{ScaleModel}
use Rattle.elimination.specs.Arithmetic.{arithmetic}
use Rattle.elimination.specs.Lift.{Element, scalars, up, vec, Fresh, Absorbed}
use Rattle.strip.specs.Row.{Row, First}
use Rattle.elimination.specs.Rows.{Balance, RowSet, combine}
use Rattle.elimination.proofs.Lifting.{up_none, up_is_zero, up_plus, up_combine}
use Rattle.elimination.proofs.Sums.{Coded, at, zero_times, sum_more, combine_code}

module _ (M : ScaleModel) (size : ℕ) (R : ℕ → Row) (coded : (h : ℕ) → Coded (arithmetic M) (R h)) where
  -- what `reduce_with` says
  module _ (v g coef : Row) (hv : Coded (arithmetic M) v) (hg : Coded (arithmetic M) g) (hc : Coded (arithmetic M) coef) (balance : Balance (arithmetic M) size coef R v g)
      (sparse : (j : ℕ) → j < size → R j j ≡ 0 → coef j ≡ 0) (past : (p : ℕ) → size ≤ p → coef p ≡ 0)
      (early : (k : ℕ) → k ≤ size → ((p : ℕ) → p < k → v p ≡ 0) → (p : ℕ) → p < k → (coef p ≡ 0) × (g p ≡ 0)) where
    low : (k : ℕ) → ((p : ℕ) → p < k → up M (v p) ≡ (scalars M).zero) → (p : ℕ) → p < k → v p ≡ 0
    low k z p l = up_none M (v p) (hv p) (z p l)

    lifted : (p : ℕ) → up M (v p) ≡ (scalars M).plus (up M (g p)) (comb (scalars M) size (vec M coef) (λ h u. up M (R h u)) p)
    lifted p =
        ap (up M) (balance p) ∙ up_plus M (g p) (combine (arithmetic M) size coef R p) (hg p) (combine_code (arithmetic M) size coef R p)
        ∙ ap ((scalars M).plus (up M (g p))) (up_combine M size coef R p)

    pub absorbed_none : ((p : ℕ) → g p ≡ 0) → Absorbed (scalars M) size (λ h u. up M (R h u)) (vec M v) (vec M coef) (λ h u. up M (R h u))
    absorbed_none z = record {
      balance = λ p. lifted p ∙ ap (λ x. (scalars M).plus x (comb (scalars M) size (vec M coef) (λ h u. up M (R h u)) p)) (up_is_zero M (z p)) ∙ zero_plus (scalars M) _;
      sparse = λ j l e. up_is_zero M (sparse j l (up_none M (R j j) (coded j j) e));
      past = λ p l. up_is_zero M (past p l);
      early = λ k l e j b. up_is_zero M (early k l (low k e) j b).0;
      still = λ k l e j p b. refl;
      kept = λ j p l n. refl;
      made = λ j l. inl (λ p. refl);
    }

    module _ (h : ℕ) (l : h < size) (first : First size g h) (blank : (p : ℕ) → R h p ≡ 0) (R' : ℕ → Row) (coded' : (h : ℕ) → Coded (arithmetic M) (R' h)) (set : RowSet R h g R') (coef' : Row)
        (later : (p : ℕ) → h ≤ p → coef p ≡ 0) (here : coef' h ≡ 1) (rest : (p : ℕ) → (p ≡ h → ⊥) → coef' p ≡ coef p) where
      coef_h : coef h ≡ 0
      coef_h = sparse h l (blank h)

      late : (k : ℕ) → k ≤ size → ((p : ℕ) → p < k → v p ≡ 0) → k ≤ h
      late k b z = elim (dec_le k h) [ yes o ↦ o | no o ↦ absurd (first.found l (early k b z h (omega arith)).1) ]

      total : (p : ℕ) → v p ≡ combine (arithmetic M) size coef' R' p
      total p =
          balance p ∙ (arithmetic M).plus_comm (g p) (combine (arithmetic M) size coef R p)
          ∙ sym (sum_more (arithmetic M) size (λ i. (arithmetic M).times (coef i) (R i p)) (λ i. (arithmetic M).times (coef' i) (R' i p)) h (g p) l
          (ap₂ (arithmetic M).times here (at set.here p) ∙ (arithmetic M).times_one (g p) (hg p)
          ∙ sym (ap (λ x. (arithmetic M).plus x (g p)) (ap (λ x. (arithmetic M).times x (R h p)) coef_h ∙ zero_times (arithmetic M) (R h p)) ∙ (arithmetic M).plus_zero (g p) (hg p)))
          (λ i n. ap₂ (arithmetic M).times (rest i n) (at (set.rest i n) p)))

      fresh : Fresh (scalars M) size (λ i u. up M (R i u)) (vec M v) h (λ u. up M (R' h u))
      fresh = (
        (λ i. (scalars M).neg (up M (coef i))),
        (λ k b e j s. ap (scalars M).neg (up_is_zero M (early k b (low k e) j s).0) ∙ simp ring),
        (λ i b. ap (scalars M).neg (up_is_zero M (later i b)) ∙ simp ring),
        λ p.
            ap (up M) (at set.here p)
            ∙ back (up M (v p)) (up M (g p)) (comb (scalars M) size (vec M coef) (λ i u. up M (R i u)) p) (lifted p)
            ∙ ap ((scalars M).plus (up M (v p))) (sym (comb_neg (scalars M) size (vec M coef) (λ i u. up M (R i u)) p)),
      )
        where
          back : (x y z : Element M) → x ≡ (scalars M).plus y z → y ≡ (scalars M).plus x ((scalars M).neg z)
          back x y z e = let s : y ≡ (scalars M).plus ((scalars M).plus y z) ((scalars M).neg z) = simp ring in s ∙ ap (λ w. (scalars M).plus w ((scalars M).neg z)) (sym e)

      pub absorbed_one : Absorbed (scalars M) size (λ i u. up M (R i u)) (vec M v) (vec M coef') (λ i u. up M (R' i u))
      absorbed_one = record {
        balance = λ p. ap (up M) (total p) ∙ up_combine M size coef' R' p;
        sparse = λ j b e. elim (ℕ_discrete j h) [
          | yes q ↦ absurd (first.found l (sym (at set.here h) ∙ subst (λ i. R' i i ≡ 0) q (up_none M (R' j j) (coded' j j) e)))
          | no n ↦ up_is_zero M (rest j n ∙ sparse j b (sym (at (set.rest j n) j) ∙ up_none M (R' j j) (coded' j j) e))
        ];
        past = λ p b. up_is_zero M (rest p (omega arith) ∙ past p b);
        early = λ k b e j s. (let o : k ≤ h = late k b (low k e) in up_is_zero M (rest j (omega arith) ∙ (early k b (low k e) j s).0));
        still = λ k b e j p s. (let o : k ≤ h = late k b (low k e) in ap (up M) (at (set.rest j (omega arith)) p));
        kept = λ j p b n. elim (ℕ_discrete j h) [
          | yes q ↦ absurd (n (up_is_zero M (ap (λ i. R i i) q ∙ blank h)))
          | no m ↦ ap (up M) (at (set.rest j m) p)
        ];
        made = λ j b. elim (ℕ_discrete j h) [
          | yes q ↦ inr (subst (λ i. Fresh (scalars M) size (λ i u. up M (R i u)) (vec M v) i (λ u. up M (R' i u))) (sym q) fresh)
          | no m ↦ inl (λ p. ap (up M) (at (set.rest j m) p))
        ];
      }

-- the arguments in the order in which `absorb` has them
pub absorbed_new : (M : ScaleModel) (size : ℕ) (R R' : ℕ → Row) (coded : (h : ℕ) → Coded (arithmetic M) (R h)) (coded' : (h : ℕ) → Coded (arithmetic M) (R' h)) (v g coef coef' : Row)
    (hv : Coded (arithmetic M) v) (hg : Coded (arithmetic M) g) (hc : Coded (arithmetic M) coef) (balance : Balance (arithmetic M) size coef R v g)
    (sparse : (j : ℕ) → j < size → R j j ≡ 0 → coef j ≡ 0) (past : (p : ℕ) → size ≤ p → coef p ≡ 0)
    (early : (k : ℕ) → k ≤ size → ((p : ℕ) → p < k → v p ≡ 0) → (p : ℕ) → p < k → (coef p ≡ 0) × (g p ≡ 0))
    (h : ℕ) (l : h < size) (first : First size g h) (blank : (p : ℕ) → R h p ≡ 0) (set : RowSet R h g R')
    (later : (p : ℕ) → h ≤ p → coef p ≡ 0) (here : coef' h ≡ 1) (rest : (p : ℕ) → (p ≡ h → ⊥) → coef' p ≡ coef p)
    → Absorbed (scalars M) size (λ i u. up M (R i u)) (vec M v) (vec M coef') (λ i u. up M (R' i u))
absorbed_new M size R R' coded coded' v g coef coef' hv hg hc balance sparse past early h l first blank set later here rest =
    absorbed_one M size R coded v g coef hv hg hc balance sparse past early h l first blank R' coded' set coef' later here rest
