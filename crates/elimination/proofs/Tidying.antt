-- Row operations keep the span; the steps to the reduced form.
use Rattle.std.proofs.Common.{◌≡◌, ℕ, zero, suc, ◌+◌, ◌-◌, ◌<◌, ◌≢◌, List, ◌++◌, length, sym, refl, ap, ◌∙◌, subst, ap₂, add-one, arith}
use native.Mathlib.Decide.{ℕ_discrete, dec_lt}
use Rattle.elimination.specs.Arithmetic.{Arithmetic}
use Rattle.strip.specs.Row.{Row, zeros}
use Rattle.elimination.specs.Rows.{added, scaled, sum, combine, rows_in, Cleared, Echelon, InSpan, SameSpan, RowSet, Swept, Tidy, SpansAs, Grows}
use Rattle.elimination.proofs.Tables.{row_left, row_right}
use Rattle.elimination.proofs.Sums.{Coded, at, times_zero, zero_times, sum_zero, sum_same, combine_blank}
use Rattle.elimination.proofs.Spans.{with_at, with_here, with_rest, sum_only, span_added}

module _ (F : Arithmetic) where
  open F use {q, plus, times, neg, inv, one_code, plus_code, times_code, neg_code, inv_code, times_comm, times_assoc, plus_zero, times_one, times_inv}

  pub span_same : (len : ℕ) (R : ℕ → Row) (f g : Row) → ((p : ℕ) → g p ≡ f p) → InSpan F len R f → InSpan F len R g
  span_same len R f g e s = record { coef = s.coef; is = λ p. e p ∙ s.is p }

  pub same_trans : (len : ℕ) (R R' R'' : ℕ → Row) → SameSpan F len R R' → SameSpan F len R' R'' → SameSpan F len R R''
  same_trans len R R' R'' a b = record { to = λ f s. b.to f (a.to f s); from = λ f s. a.from f (b.from f s) }

  pub same_refl : (len : ℕ) (R : ℕ → Row) → SameSpan F len R R
  same_refl len R = record { to = λ f s. s; from = λ f s. s }

  module _ (len : ℕ) (R : ℕ → Row) where
    pub span_zeros : InSpan F len R zeros
    span_zeros = record { coef = zeros; is = λ p. sym (combine_blank F len zeros R (λ _. refl) p) }

    pub span_row : ((h : ℕ) → Coded F (R h)) → (h : ℕ) → h < len → InSpan F len R (R h)
    span_row hr h l =
        record {
          coef = with_at h 1 zeros;
          is = λ p. sym (sum_only F len (λ i. times (with_at h 1 zeros i) (R i p)) h l (times_code _ _)
              (λ i n _. ap (λ x. times x (R i p)) (with_rest h 1 zeros i n) ∙ zero_times F (R i p))
              ∙ ap (λ x. times x (R h p)) (with_here h 1 zeros) ∙ times_one (R h p) (hr h p));
        }

    pub span_scaled : (f : Row) (c : ℕ) → InSpan F len R f → InSpan F len R (scaled F c f)
    span_scaled f c s = span_same len R _ _ (λ p. sym (plus_zero _ (times_code c (f p)))) (span_added F len R zeros f c span_zeros s)

    -- what rows of the span combine to is in the span
    closed : (R' : ℕ → Row) (a : Row) (n : ℕ) → ((h : ℕ) → h < n → InSpan F len R (R' h)) → InSpan F len R (combine F n a R')
    unfolding sum
    closed R' a zero rows = span_zeros
    closed R' a (suc n) rows = span_added F len R (combine F n a R') (R' n) (a n) (closed R' a n (λ h l. rows h (omega arith))) (rows n (omega arith))

    pub span_closed : (R' : ℕ → Row) → ((h : ℕ) → h < len → InSpan F len R (R' h)) → (f : Row) → InSpan F len R' f → InSpan F len R f
    span_closed R' rows f s = span_same len R _ f s.is (closed R' s.coef len rows)

  pub same_span : (len : ℕ) (R R' : ℕ → Row) → ((h : ℕ) → h < len → InSpan F len R (R' h)) → ((h : ℕ) → h < len → InSpan F len R' (R h)) → SameSpan F len R R'
  same_span len R R' a b = record { to = span_closed len R' R b; from = span_closed len R R' a }

  -- with no rows on either side
  pub spans_none : (A : ℕ → Row) (n : ℕ) (R : ℕ → Row) → ((h p : ℕ) → h < n → R h p ≡ 0) → SpansAs F 0 A n R
  unfolding sum
  spans_none A n R z =
      record {
        to = λ f s. record { coef = zeros; is = λ p. s.is p ∙ sym (sum_zero F n _ (λ h b. ap (times 0) (z h p b) ∙ times_zero F 0)) };
        from = λ f s. record {
          coef = zeros;
          is = λ p. s.is p ∙ sum_zero F n _ (λ h b. ap (times (s.coef h)) (z h p b) ∙ times_zero F (s.coef h));
        };
      }

  -- one row more on both sides
  pub spans_more : (m : ℕ) (A : ℕ → Row) (n : ℕ) (R R' : ℕ → Row) (v : Row) → A m ≡ v → SpansAs F m A n R → Grows F n R v R' → SpansAs F (m + 1) A n R'
  unfolding sum
  spans_more m A n R R' v e s g =
      rw add-one (record {
        to = λ f t.
            span_same n R' (added F (combine F m t.coef A) (t.coef m) v) f (λ p. t.is p ∙ ap (λ x. plus (combine F m t.coef A p) (times (t.coef m) x)) (at e p))
            (g.more (t.coef m) (combine F m t.coef A) (s.to _ (record { coef = t.coef; is = λ _. refl })));
        from = λ f t. back f (g.no_more f t);
      })
    where
      back : (f : Row) → (c : ℕ) × (w : Row) × InSpan F n R w × ((p : ℕ) → f p ≡ added F w c v p) → InSpan F (suc m) A f
      back f d =
          let c = d.0 in
          let b = s.from d.1 d.2 in
          record {
            coef = with_at m c b.coef;
            is = λ p. d.3 p ∙ ap₂ plus
                (b.is p ∙ sum_same F m (λ i. times (b.coef i) (A i p)) (λ i. times (with_at m c b.coef i) (A i p))
                (λ i l. ap (λ x. times x (A i p)) (sym (with_rest m c b.coef i (omega arith)))))
                (ap₂ times (sym (with_here m c b.coef)) (sym (at e p)));
          }

  -- the rows of A count only below m
  pub spans_rows : (m : ℕ) (A B : ℕ → Row) (n : ℕ) (R : ℕ → Row) → ((h : ℕ) → h < m → B h ≡ A h) → SpansAs F m B n R → SpansAs F m A n R
  spans_rows m A B n R e s =
      record {
        to = λ f t. s.to f (record { coef = t.coef; is = λ p. t.is p ∙ sum_same F m _ _ (λ h l. ap (times (t.coef h)) (sym (at (e h l) p))) });
        from = λ f t. let u = s.from f t in record { coef = u.coef; is = λ p. u.is p ∙ sum_same F m _ _ (λ h l. ap (times (u.coef h)) (at (e h l) p)) };
      }

  pub spans_trans : (m : ℕ) (A : ℕ → Row) (n : ℕ) (R R' : ℕ → Row) → SpansAs F m A n R → SameSpan F n R R' → SpansAs F m A n R'
  spans_trans m A n R R' a b = record { to = λ f s. b.to f (a.to f s); from = λ f s. a.from f (b.from f s) }

  module _ (len : ℕ) (R R' : ℕ → Row) (hr : (h : ℕ) → Coded F (R h)) (hr' : (h : ℕ) → Coded F (R' h)) (shape : Echelon len R) (h : ℕ) (l : h < len) where
    module _ (filled : R h h ≢ 0) (set : RowSet R h (scaled F (inv (R h h)) (R h)) R') where
      pub unit_is_one : R' h h ≡ 1
      unit_is_one = at set.here h ∙ times_inv (R h h) (hr h h) filled

      pub unit_shape : Echelon len R'
      unit_shape =
          record {
            low = λ k p b s. elim (ℕ_discrete k h) [
              | yes e ↦ ap (λ m. R' m p) e ∙ at set.here p ∙ ap (times (inv (R h h))) (shape.low h p l (omega arith)) ∙ times_zero F _
              | no n ↦ at (set.rest k n) p ∙ shape.low k p b s
            ];
            blank = λ k p b z. elim (ℕ_discrete k h) [
              | yes e ↦ absurd (let one : R' k k ≡ 1 = subst (λ m. R' m m ≡ 1) (sym e) unit_is_one in omega arith)
              | no n ↦ at (set.rest k n) p ∙ shape.blank k p b (sym (at (set.rest k n) k) ∙ z)
            ];
          }

      pub unit_span : SameSpan F len R R'
      unit_span =
          same_span len R R'
          (λ k b. elim (ℕ_discrete k h) [
            | yes e ↦ span_same len R (scaled F (inv (R h h)) (R h)) (R' k) (λ p. ap (λ m. R' m p) e ∙ at set.here p) (span_scaled len R (R h) _ (span_row len R hr h l))
            | no n ↦ span_same len R (R k) (R' k) (at (set.rest k n)) (span_row len R hr k b)
          ])
          (λ k b. elim (ℕ_discrete k h) [
            | yes e ↦ span_same len R' (scaled F (R h h) (R' h)) (R k)
                (λ p. ap (λ m. R m p) e ∙ sym (ap (times (R h h)) (at set.here p) ∙ sym (times_assoc (R h h) (inv (R h h)) (R h p))
                ∙ ap (λ x. times x (R h p)) (times_comm (R h h) (inv (R h h)) ∙ times_inv (R h h) (hr h h) filled) ∙ times_one (R h p) (hr h p)))
                (span_scaled len R' (R' h) (R h h) (span_row len R' hr' h l))
            | no n ↦ span_same len R' (R' k) (R k) (λ p. sym (at (set.rest k n) p)) (span_row len R' hr' k b)
          ])

      pub unit_tidy : Tidy h len R → Tidy h len R'
      unit_tidy t =
          record {
            heads = λ j b n.
                let d : j ≢ h = omega arith in
                at (set.rest j d) j ∙ t.heads j b (λ z. n (at (set.rest j d) j ∙ z));
            alone = λ j k b s m n.
                let d : j ≢ h = omega arith in
                elim (ℕ_discrete k h) [
                  | yes e ↦ ap (λ i. R' i j) e ∙ at set.here j ∙ ap (times (inv (R h h))) (shape.low h j l b) ∙ times_zero F _
                  | no u ↦ at (set.rest k u) j ∙ t.alone j k b s m (λ z. n (at (set.rest j d) j ∙ z))
                ];
          }

    module _ (swept : Swept F h h R R') where
      -- a place where the row at h has 0 is as it was
      pub sweep_kept : (k p : ℕ) → R h p ≡ 0 → R' k p ≡ R k p
      sweep_kept k p z = elim (dec_lt k h) [
        | yes b ↦ (swept.each k b).1.kept p z
        | no b ↦ at (swept.rest k (omega arith)) p
      ]

      pub sweep_shape : Echelon len R'
      sweep_shape =
          record {
            low = λ k p b s. elim (dec_lt k h) [
              | yes d ↦ sweep_kept k p (shape.low h p l (omega arith)) ∙ shape.low k p b s
              | no d ↦ at (swept.rest k (omega arith)) p ∙ shape.low k p b s
            ];
            blank = λ k p b z. elim (dec_lt k h) [
              | yes d ↦
                  let e : R k k ≡ 0 = sym (sweep_kept k k (shape.low h k l d)) ∙ z in
                  (swept.each k d).1.same (shape.blank k h b e) p ∙ shape.blank k p b e
              | no d ↦ at (swept.rest k (omega arith)) p ∙ shape.blank k p b (sym (at (swept.rest k (omega arith)) k) ∙ z)
            ];
          }

      pub sweep_span : SameSpan F len R R'
      sweep_span =
          same_span len R R'
          (λ k b. elim (dec_lt k h) [
            | yes d ↦ span_same len R (added F (R k) (neg (swept.each k d).0) (R h)) (R' k) (swept.each k d).1.is
                (span_added F len R (R k) (R h) _ (span_row len R hr k b) (span_row len R hr h l))
            | no d ↦ span_same len R (R k) (R' k) (at (swept.rest k (omega arith))) (span_row len R hr k b)
          ])
          (λ k b. elim (dec_lt k h) [
            | yes d ↦ span_same len R' (added F (R' k) (swept.each k d).0 (R' h)) (R k)
                (λ p. (swept.each k d).1.back p ∙ ap (λ x. plus (R' k p) (times (swept.each k d).0 x)) (sym (at (swept.rest h (omega arith)) p)))
                (span_added F len R' (R' k) (R' h) _ (span_row len R' hr' k b) (span_row len R' hr' h l))
            | no d ↦ span_same len R' (R' k) (R k) (λ p. sym (at (swept.rest k (omega arith)) p)) (span_row len R' hr' k b)
          ])

      pub sweep_tidy : R h h ≡ 1 → Tidy h len R → Tidy (h + 1) len R'
      sweep_tidy one t =
          record {
            heads = λ j b n. elim (ℕ_discrete j h) [
              | yes e ↦ subst (λ m. R' m m ≡ 1) (sym e) (at (swept.rest h (omega arith)) h ∙ one)
              | no m ↦ same j j (omega arith) ∙ t.heads j (omega arith) (λ z. n (same j j (omega arith) ∙ z))
            ];
            alone = λ j k b s m n. elim (ℕ_discrete j h) [
              | yes e ↦ ap (R' k) e ∙ elim (dec_lt k h) [
                | yes d ↦ (swept.each k d).1.gone (omega arith)
                | no d ↦ at (swept.rest k (omega arith)) h ∙ shape.low k h s (omega arith)
              ]
              | no u ↦ same k j (omega arith) ∙ t.alone j k (omega arith) s m (λ z. n (same j j (omega arith) ∙ z))
            ];
          }
        where
          same : (k p : ℕ) → p < h → R' k p ≡ R k p
          same k p b = sweep_kept k p (shape.low h p l b)

-- nothing to do at a place with no row
pub tidy_empty : (len : ℕ) (R : ℕ → Row) (h : ℕ) → R h h ≡ 0 → Tidy h len R → Tidy (h + 1) len R
tidy_empty len R h z t =
    record {
      heads = λ j b n. elim (ℕ_discrete j h) [ yes e ↦ absurd (n (subst (λ m. R m m ≡ 0) (sym e) z)) | no m ↦ t.heads j (omega arith) n ];
      alone = λ j k b s m n. elim (ℕ_discrete j h) [ yes e ↦ absurd (n (subst (λ i. R i i ≡ 0) (sym e) z)) | no u ↦ t.alone j k (omega arith) s m n ];
    }

-- the rows above are cleared by the first of the rest
pub swept_above : (F : Arithmetic) {S : Type 0} (code : S → Row) (xs xs' ys : List S) (h : ℕ) → length xs ≡ h → length xs' ≡ h
    → ((k : ℕ) → k < h → (c : ℕ) × Cleared F (rows_in code xs k) (rows_in code ys 0) h c (rows_in code xs' k))
    → Swept F h h (rows_in code (xs ++ ys)) (rows_in code (xs' ++ ys))
swept_above F code xs xs' ys h e e' each =
    let none : h - h ≡ 0 = omega arith in
    let first : rows_in code (xs ++ ys) h ≡ rows_in code ys 0 = row_right code xs ys h h e (omega arith) ∙ ap (rows_in code ys) none in
    record {
      rest = λ k l. row_right code xs' ys h k e' l ∙ sym (row_right code xs ys h k e l);
      each = λ k l. rw (row_left code xs ys k (omega arith), row_left code xs' ys k (omega arith), first) (each k l);
    }
