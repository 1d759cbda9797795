-- What is said of a table looks at no row past its last: it holds of any rows that agree with the table's below there.
use Rattle.std.proofs.Common.{◌≡◌, ℕ, ◌+◌, ◌-◌, ◌<◌, ◌≤◌, sym, ap, ◌∙◌, inl, inr, arith}
use Rattle.linear.proofs.Sums.{sum_cong}
use Rattle.scale.specs.Model.{ScaleModel}
use Rattle.strip.specs.Row.{Row}
use Rattle.elimination.specs.Arithmetic.{Arithmetic}
use Rattle.elimination.specs.Lift.{Element, up, scalars, elements, Gathered, Fresh, Absorbed}
use Rattle.elimination.specs.Rows.{added, combine, Echelon, Balance, Reduced, InSpan, Grows, SameSpan, Tidy, SpansAs}
use Rattle.elimination.proofs.Sums.{at, sum_same}

-- the rows below n are the same
abbrev pub Agree : ℕ → (ℕ → Row) → (ℕ → Row) → Type 0
Agree n R R' = (h : ℕ) → h < n → R h ≡ R' h

pub agree_back : {n : ℕ} {R R' : ℕ → Row} → Agree n R R' → Agree n R' R
agree_back a h l = sym (a h l)

module _ (n : ℕ) (R R' : ℕ → Row) (agree : Agree n R R') where
  pub echelon_agrees : Echelon n R → Echelon n R'
  echelon_agrees s = record {
    low = λ h p l b. sym (at (agree h l) p) ∙ s.low h p l b;
    blank = λ h p l z. sym (at (agree h l) p) ∙ s.blank h p l (at (agree h l) h ∙ z);
  }

  pub inside_agrees : (size : ℕ) → ((h p : ℕ) → h < n → size ≤ p → R h p ≡ 0) → (h p : ℕ) → h < n → size ≤ p → R' h p ≡ 0
  inside_agrees size s h p l b = sym (at (agree h l) p) ∙ s h p l b

  pub tidy_agrees : (m : ℕ) → m ≤ n → Tidy m n R → Tidy m n R'
  tidy_agrees m w s = record {
    heads = λ h l f. let e = at (agree h (omega arith)) h in sym e ∙ s.heads h l (λ z. f (sym e ∙ z));
    alone = λ h k l b d f. sym (at (agree k b) h) ∙ s.alone h k l b d (λ z. f (sym (at (agree h (omega arith)) h) ∙ z));
  }

  pub reduced_agrees : (f : Row) → Reduced n R f → Reduced n R' f
  reduced_agrees f s h first l = sym (at (agree h l) h) ∙ s h first l

  module _ (F : Arithmetic) where
    pub combine_agrees : (a : ℕ → ℕ) (p : ℕ) → combine F n a R p ≡ combine F n a R' p
    combine_agrees a p = sum_same F n _ _ (λ h l. ap (F.times (a h)) (at (agree h l) p))

    pub balance_agrees : (a : ℕ → ℕ) (f g : Row) → Balance F n a R f g → Balance F n a R' f g
    balance_agrees a f g s p = s p ∙ ap (F.plus (g p)) (combine_agrees a p)

    pub span_agrees : (f : Row) → InSpan F n R f → InSpan F n R' f
    span_agrees f s = record { coef = s.coef; is = λ p. s.is p ∙ combine_agrees s.coef p }

-- of two tables
module _ (F : Arithmetic) (n : ℕ) (R Q : ℕ → Row) (first : Agree n R Q) (m : ℕ) (R' Q' : ℕ → Row) (second : Agree m R' Q') where
  pub spans_as_agrees : SpansAs F n R m R' → SpansAs F n Q m Q'
  spans_as_agrees s = record {
    to = λ f t. span_agrees m R' Q' second F f (s.to f (span_agrees n Q R (agree_back first) F f t));
    from = λ f t. span_agrees n R Q first F f (s.from f (span_agrees m Q' R' (agree_back second) F f t));
  }

module _ (F : Arithmetic) (n : ℕ) (R Q : ℕ → Row) (before : Agree n R Q) (R' Q' : ℕ → Row) (after : Agree n R' Q') where
  pub same_span_agrees : SameSpan F n R R' → SameSpan F n Q Q'
  same_span_agrees s = record {
    to = λ f t. span_agrees n R' Q' after F f (s.to f (span_agrees n Q R (agree_back before) F f t));
    from = λ f t. span_agrees n R Q before F f (s.from f (span_agrees n Q' R' (agree_back after) F f t));
  }

  pub grows_agrees : (v : Row) → Grows F n R v R' → Grows F n Q v Q'
  grows_agrees v s = record {
    more = λ c f t. span_agrees n R' Q' after F (added F f c v) (s.more c f (span_agrees n Q R (agree_back before) F f t));
    no_more = λ f t. let d = s.no_more f (span_agrees n Q' R' (agree_back after) F f t) in (d.0, d.1, span_agrees n R Q before F d.1 d.2, d.3);
  }

module _ (M : ScaleModel) where
  pub gathered_agrees : (r : Row) (n : ℕ) (R Q : ℕ → Row) → Agree n R Q → (from : ℕ) (f g : Row) → Gathered M r (elements M R) from n f g → Gathered M r (elements M Q) from n f g
  gathered_agrees r n R Q agree from f g s p =
      s p ∙ ap ((scalars M).plus (up M (f p))) (sum_cong (scalars M) (n - from) _ _ (λ i l. ap ((scalars M).times (up M (r (from + i)))) (ap (up M) (at (agree (from + i) (omega arith)) p))))

  module _ (n : ℕ) (R Q : ℕ → Row) (before : Agree n R Q) (R' Q' : ℕ → Row) (after : Agree n R' Q') (v coef : ℕ → Element M) where
    was : (h p : ℕ) → h < n → elements M R h p ≡ elements M Q h p
    was h p l = ap (up M) (at (before h l) p)

    is : (h p : ℕ) → h < n → elements M R' h p ≡ elements M Q' h p
    is h p l = ap (up M) (at (after h l) p)

    fresh : (j : ℕ) → j < n → Fresh (scalars M) n (elements M R) v j (elements M R' j) → Fresh (scalars M) n (elements M Q) v j (elements M Q' j)
    fresh j b s =
        (s.0, s.1, s.2, λ p. sym (is j p b) ∙ s.3 p ∙ ap ((scalars M).plus (v p)) (sum_cong (scalars M) n _ _ (λ h l. ap ((scalars M).times (s.0 h)) (was h p l))))

    pub absorbed_agrees : Absorbed (scalars M) n (elements M R) v coef (elements M R') → Absorbed (scalars M) n (elements M Q) v coef (elements M Q')
    absorbed_agrees s = record {
      balance = λ p. s.balance p ∙ sum_cong (scalars M) n _ _ (λ h l. ap ((scalars M).times (coef h)) (is h p l));
      sparse = λ j l z. s.sparse j l (is j j l ∙ z);
      past = s.past;
      early = s.early;
      still = λ k l z j p b. sym (is j p (omega arith)) ∙ s.still k l z j p b ∙ was j p (omega arith);
      kept = λ j p l f. sym (is j p l) ∙ s.kept j p l (λ z. f (sym (was j j l) ∙ z)) ∙ was j p l;
      made = λ j l. elim (s.made j l) [
        | inl e ↦ inl (λ p. sym (is j p l) ∙ e p ∙ was j p l)
        | inr e ↦ inr (fresh j l e)
      ];
    }
