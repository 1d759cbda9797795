-- What rows span, and how one more row changes it.
use Rattle.std.proofs.Common.{◌≡◌, ℕ, zero, suc, ◌<◌, ◌≢◌, sym, refl, ap, ◌∙◌, subst, ap₂, arith}
use native.Mathlib.Decide.{ℕ_discrete}
use Rattle.elimination.specs.Arithmetic.{Arithmetic}
use Rattle.strip.specs.Row.{Row, First}
use Rattle.elimination.specs.Rows.{added, sum, combine, Echelon, InSpan, LessSpan, Grows, RowSet}
use Rattle.elimination.proofs.Sums.{at, zero_code, zero_plus, plus_swap, times_zero, zero_times, plus_times, take_back, sum_same, sum_zero, sum_more, combine_code}

-- f with c at h
pub with_at : ℕ → ℕ → Row → Row
with_at h c f i = elim (ℕ_discrete i h) [ yes _ ↦ c | no _ ↦ f i ]

pub with_here : (h c : ℕ) (f : Row) → with_at h c f h ≡ c
unfolding with_at
with_here h c f = elim (ℕ_discrete h h) as (λ d. (elim d [ yes _ ↦ c | no _ ↦ f h ]) ≡ c) [ yes _ ↦ refl | no n ↦ absurd (n refl) ]

pub with_rest : (h c : ℕ) (f : Row) (i : ℕ) → i ≢ h → with_at h c f i ≡ f i
unfolding with_at
with_rest h c f i n = elim (ℕ_discrete i h) as (λ d. (elim d [ yes _ ↦ c | no _ ↦ f i ]) ≡ f i) [ yes e ↦ absurd (n e) | no _ ↦ refl ]

module _ (F : Arithmetic) where
  open F use {q, plus, times, neg, inv, one_code, plus_code, times_code, neg_code, inv_code, plus_comm, times_comm, times_assoc, plus_assoc, plus_zero, times_one, plus_neg, times_inv, times_plus}

  -- (a + b) + (c + d) = (a + c) + (b + d)
  pub plus_mid : (a b c d : ℕ) → plus (plus a b) (plus c d) ≡ plus (plus a c) (plus b d)
  plus_mid a b c d = sym (plus_assoc (plus a b) c d) ∙ ap (λ x. plus x d) (plus_swap F a b c) ∙ plus_assoc (plus a c) b d

  pub sum_plus : (n : ℕ) (t u : ℕ → ℕ) → sum F n (λ i. plus (t i) (u i)) ≡ plus (sum F n t) (sum F n u)
  unfolding sum
  sum_plus zero t u = sym (plus_zero 0 (zero_code F))
  sum_plus (suc n) t u = ap (λ x. plus x (plus (t n) (u n))) (sum_plus n t u) ∙ plus_mid (sum F n t) (sum F n u) (t n) (u n)

  pub sum_times : (n c : ℕ) (t : ℕ → ℕ) → sum F n (λ i. times c (t i)) ≡ times c (sum F n t)
  unfolding sum
  sum_times zero c t = sym (times_zero F c)
  sum_times (suc n) c t = ap (λ x. plus x (times c (t n))) (sum_times n c t) ∙ sym (times_plus c (sum F n t) (t n))

  -- all terms but one are 0
  pub sum_only : (n : ℕ) (t : ℕ → ℕ) (h : ℕ) → h < n → t h < q → ((i : ℕ) → i ≢ h → i < n → t i ≡ 0) → sum F n t ≡ t h
  unfolding sum
  sum_only zero t h l ht z = absurd (omega arith)
  sum_only (suc n) t h l ht z =
      elim (ℕ_discrete h n) [
        | yes e ↦
            ap (λ x. plus x (t n)) (sum_zero F n t (λ i b. z i (omega arith) (omega arith))) ∙ plus_zero (t n) (subst (λ m. t m < q) e ht) ∙ ap t (sym e)
        | no k ↦ ap₂ plus (sum_only n t h (omega arith) ht (λ i m b. z i m (omega arith))) (z n (λ e. k (sym e)) (omega arith)) ∙ zero_plus F (t h) ht
      ]

  pub combine_added : (n : ℕ) (R : ℕ → Row) (a b : Row) (c p : ℕ) → combine F n (added F a c b) R p ≡ plus (combine F n a R p) (times c (combine F n b R p))
  combine_added n R a b c p =
      sum_same F n _ _ (λ i _. plus_times F (a i) (times c (b i)) (R i p) ∙ ap (plus (times (a i) (R i p))) (times_assoc c (b i) (R i p)))
      ∙ sum_plus n (λ i. times (a i) (R i p)) (λ i. times c (times (b i) (R i p)))
      ∙ ap (plus (combine F n a R p)) (sum_times n c (λ i. times (b i) (R i p)))

  -- one row more, g at h, where the table had none
  module _ (len : ℕ) (R R' : ℕ → Row) (v g : Row) (less : LessSpan F len R v g)
      (h : ℕ) (l : h < len) (blank : (p : ℕ) → R h p ≡ 0) (set : RowSet R h g R') where
    -- with coefficients a on the new rows, and e on the old, that differ at h only
    shift : (a e : Row) → ((i : ℕ) → i ≢ h → a i ≡ e i) → (p : ℕ) → combine F len a R' p ≡ plus (combine F len e R p) (times (a h) (g p))
    shift a e same p =
        sum_more F len (λ i. times (e i) (R i p)) (λ i. times (a i) (R' i p)) h (times (a h) (g p)) l
        (ap (times (a h)) (at set.here p) ∙ sym (ap (λ x. plus x (times (a h) (g p))) (ap (times (e h)) (blank p) ∙ times_zero F (e h)) ∙ plus_zero _ (times_code (a h) (g p))))
        (λ i m. ap₂ times (same i m) (at (set.rest i m) p))

    grow_more : (c : ℕ) (f : Row) → InSpan F len R f → InSpan F len R' (added F f c v)
    grow_more c f s =
        record {
          coef = a;
          is = λ p.
              let A = combine F len s.coef R p in
              let B = combine F len less.coef R p in
              ap₂ (λ x y. plus x (times c y)) (s.is p) (less.balance p)
              ∙ ap (plus A) (times_plus c (g p) B ∙ plus_comm (times c (g p)) (times c B))
              ∙ sym (plus_assoc A (times c B) (times c (g p)))
              ∙ ap₂ (λ x y. plus x (times y (g p))) (sym (combine_added len R s.coef less.coef c p)) (sym (with_here h c e))
              ∙ sym (shift a e (λ i m. with_rest h c e i m) p);
        }
      where
        e : Row
        e = added F s.coef c less.coef

        a : Row
        a = with_at h c e

    grow_no_more : (f : Row) → InSpan F len R' f → (c : ℕ) × (w : Row) × InSpan F len R w × ((p : ℕ) → f p ≡ added F w c v p)
    grow_no_more f s = (c, combine F len e R, record { coef = e; is = λ p. refl }, back)
      where
        c : ℕ
        c = s.coef h

        e : Row
        e = added F s.coef (neg c) less.coef

        back : (p : ℕ) → f p ≡ added F (combine F len e R) c v p
        back p =
            let A = combine F len s.coef R p in
            let B = combine F len less.coef R p in
            let G = times c (g p) in
            s.is p ∙ shift s.coef s.coef (λ i m. refl) p
            ∙ ap (λ x. plus x G) (sym (take_back F A c B (combine_code F len s.coef R p)))
            ∙ plus_assoc (plus A (times (neg c) B)) (times c B) G
            ∙ ap₂ plus (sym (combine_added len R s.coef less.coef (neg c) p))
            (plus_comm (times c B) G ∙ sym (times_plus c (g p) B) ∙ ap (times c) (sym (less.balance p)))

    pub grows : Grows F len R v R'
    grows = record { more = grow_more; no_more = grow_no_more }

  module _ (len : ℕ) (R : ℕ → Row) where
    -- what reduces to nothing is spanned
    pub nothing_left : (v g : Row) → LessSpan F len R v g → ((p : ℕ) → g p ≡ 0) → InSpan F len R v
    nothing_left v g less z =
        record {
          coef = less.coef;
          is = λ p. less.balance p ∙ ap (λ x. plus x (combine F len less.coef R p)) (z p) ∙ plus_zero _ (combine_code F len less.coef R p);
        }

    pub span_added : (f g : Row) (c : ℕ) → InSpan F len R f → InSpan F len R g → InSpan F len R (added F f c g)
    span_added f g c s t =
        record {
          coef = added F s.coef c t.coef;
          is = λ p. ap₂ (λ x y. plus x (times c y)) (s.is p) (t.is p) ∙ sym (combine_added len R s.coef t.coef c p);
        }

    -- what is spanned adds nothing
    pub grows_none : (v : Row) → InSpan F len R v → Grows F len R v R
    grows_none v b =
        record {
          more = λ c f s. span_added f v c s b;
          no_more = λ f s. (
            0,
            f,
            s,
            λ p.
                let hf : f p < q = rw (s.is p) (combine_code F len s.coef R p) in
                sym (ap (plus (f p)) (zero_times F (v p)) ∙ zero_plus F (f p) hf),
          );
        }

-- a row at its own pivot keeps the shape
pub stays : (len : ℕ) (R R' : ℕ → Row) (g : Row) (h : ℕ) → Echelon len R → First len g h → h < len → RowSet R h g R' → Echelon len R'
stays len R R' g h shape f l set =
    record {
      low = λ k p b s. elim (ℕ_discrete k h) [
        | yes e ↦ ap (λ m. R' m p) e ∙ at set.here p ∙ f.before p (omega arith)
        | no n ↦ at (set.rest k n) p ∙ shape.low k p b s
      ];
      blank = λ k p b z. elim (ℕ_discrete k h) [
        | yes e ↦ absurd (f.found l (sym (at set.here h) ∙ subst (λ m. R' m m ≡ 0) e z))
        | no n ↦ at (set.rest k n) p ∙ shape.blank k p b (sym (at (set.rest k n) k) ∙ z)
      ];
    }
