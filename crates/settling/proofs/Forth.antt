-- One turn of the forward pass, and what the last one leaves.
use Rattle.std.proofs.Common.{◌≡◌, ℕ, suc, ◌+◌, ◌-◌, ◌<◌, ◌≤◌, ◌≢◌, sym, ap, ◌∙◌, ap₂, inl, inr, arith}
use mathlib.Core.Path.{fun_ext}
use mathlib.Core.Logic.{ite}
use native.Mathlib.Decide.{ℕ_discrete, dec_lt, dec_le}
use Rattle.linear.specs.Field.{Field as Scalars}
use Rattle.linear.specs.Linear.{comb}
use Rattle.linear.specs.Sums.{sum}
use Rattle.linear.proofs.Dimension.{comb_comb}
use Rattle.linear.proofs.Ring.{zero_times, nonzero}
use Rattle.linear.proofs.Spans.{comb_plus}
use Rattle.linear.proofs.Sums.{sum_cong}
use Rattle.diagram.specs.Canonical.{Derived}
use Rattle.diagram.specs.Canonical.Derived.{itself, added, scaled}
use Rattle.diagram.specs.Diagram.{Assignment, Diagram, Formed, val, rule}
use Rattle.diagram.specs.Passes.{rest, gain, here, Trims}
use Rattle.diagram.proofs.Backward.{derived_zero, derived_sum, derived_blank}
use Rattle.diagram.proofs.Derivation.{derived_same, lowered}
use Rattle.diagram.proofs.Forward.{derived_lift, derived_rest, derived_gain, rest_later, gain_later, here_block, after_block}
use Rattle.elimination.specs.Lift.{Fresh, Absorbed}
use Rattle.settling.specs.Trimming.{Sparse, Trimming}

module _ {K : Type 0} (F : Scalars K) where
  open F use {plus as ◌⊕◌, times as ◌⊗◌}

  infixl 60 ◌⊕◌
  infixl 70 ◌⊗◌
  -- a row goes into the table
  module _ (size : ℕ) (R : ℕ → ℕ → K) (v coef : ℕ → K) (R' : ℕ → ℕ → K) (ab : Absorbed F size R v coef R') where
    pub sparse_kept : (a : ℕ → K) → Sparse F size R a → Sparse F size R' a
    sparse_kept a s j l e = elim (F.same (R j j) F.zero) [
      | yes z ↦ s j l z
      | no n ↦ absurd (n (sym (ab.kept j j l n) ∙ e))
    ]

    pub comb_kept : (a : ℕ → K) → Sparse F size R a → (u : ℕ) → comb F size a R u ≡ comb F size a R' u
    comb_kept a s u = sum_cong F size _ _ (λ j l. elim (F.same (R j j) F.zero) [
      | yes z ↦ ap (λ x. x ⊗ R j u) (s j l z) ∙ zero_times F (R j u) ∙ sym (ap (λ x. x ⊗ R' j u) (s j l z) ∙ zero_times F (R' j u))
      | no n ↦ ap (◌⊗◌ (a j)) (sym (ab.kept j u l n))
    ])

  module _ (n m : ℕ) (D : Diagram K) (formed : Formed F n D) (size : D.places ≡ m + 1) (top : n ≤ D.pos m) (cells : (t : ℕ) → t < m → D.pos t < n)
      (order : (t u : ℕ) → t ≤ u → u < D.places → D.pos t ≤ D.pos u) where
    abbrev f : Assignment → K
    f = rule F n D

    -- earlier positions stand before
    before : (u j : ℕ) → u < D.places → D.pos u < D.pos j → u < j
    before u j l k = elim (dec_lt u j) [ yes o ↦ o | no o ↦ absurd (omega (arith, order j u (omega arith) l)) ]

    module _ (R : ℕ → ℕ → K) (v coef : ℕ → K) (R' : ℕ → ℕ → K) (ab : Absorbed F D.places R v coef R')
        (low' : (k u : ℕ) → k < D.places → u < k → R' k u ≡ F.zero)
        (e p : ℕ) (e_in : e ≤ D.places) (none : (u : ℕ) → u < e → v u ≡ F.zero) (past : (u : ℕ) → u < D.places → D.pos u < p → u < e)
        (dv : Derived F f p (comb F D.places v (val F n D)))
        (derived : (j : ℕ) → j < m → Derived F f (D.pos j) (comb F D.places (R j) (val F n D))) where
      down : (g : Assignment → K) (q r : ℕ) → q ≤ r → Derived F f r g → Derived F f q g
      down g q r l d = lowered F f g (r - q) q r (omega arith) d

      module _ (j : ℕ) (l : j < m) (fr : Fresh F D.places R v j (R' j)) where
        abbrev G : ℕ → Assignment → K
        G i a = fr.0 i ⊗ comb F D.places (R i) (val F n D) a

        gone : (i : ℕ) → fr.0 i ≡ F.zero → Derived F f p (G i)
        gone i z = derived_same F f (λ _. F.zero) (G i) (λ a. sym (ap (λ x. x ⊗ comb F D.places (R i) (val F n D) a) z ∙ zero_times F _)) (derived_zero F f p)

        term : (i : ℕ) → i < D.places → Derived F f p (G i)
        term i b = elim (dec_lt i j) [
          | no o ↦ gone i (fr.2 i (omega arith))
          | yes o ↦ elim (dec_lt (D.pos i) p) [
            | yes q ↦ gone i (fr.1 e e_in none i (past i b q))
            | no q ↦ scaled (fr.0 i) (down (comb F D.places (R i) (val F n D)) p (D.pos i) (omega arith) (derived i (omega arith)))
          ]
        ]

        at_p : Derived F f p (comb F D.places (R' j) (val F n D))
        at_p =
            derived_same F f (λ a. comb F D.places v (val F n D) a ⊕ sum F D.places (λ i. G i a)) (comb F D.places (R' j) (val F n D))
            (λ a.
            ap (◌⊕◌ (comb F D.places v (val F n D) a)) (comb_comb F D.places D.places fr.0 R (val F n D) a)
            ∙ sym (comb_plus F D.places v (λ u. comb F D.places fr.0 R u) (val F n D) a)
            ∙ sum_cong F D.places _ _ (λ u b. ap (λ x. x ⊗ val F n D u a) (sym (fr.3 u))))
            (added dv (derived_sum F f p D.places G term))

        fresh_derived : Derived F f (D.pos j) (comb F D.places (R' j) (val F n D))
        fresh_derived =
            elim (dec_le p (D.pos j)) [
              | yes o ↦ derived_lift F n D formed f p (D.pos j) o (R' j) (λ u i k. low' j u (omega arith) (before u j i k)) at_p
              | no o ↦ down (comb F D.places (R' j) (val F n D)) (D.pos j) p (omega arith) at_p
            ]

      pub derived_kept : (j : ℕ) → j < m → Derived F f (D.pos j) (comb F D.places (R' j) (val F n D))
      derived_kept j l = elim (ab.made j (omega arith)) [
        | inl s ↦ derived_same F f (comb F D.places (R j) (val F n D)) (comb F D.places (R' j) (val F n D))
            (λ a. sum_cong F D.places _ _ (λ u b. ap (λ x. x ⊗ val F n D u a) (sym (s u)))) (derived j l)
        | inr fr ↦ fresh_derived j l fr
      ]

      pub same_row : (k : ℕ) → k < e → R' k ≡ R k
      same_row k l = fun_ext (λ u. ab.still e e_in none k u l)

    -- the table grows, at places from e on
    pub grown : (R : ℕ → ℕ → K) (v coef : ℕ → K) (R' : ℕ → ℕ → K) (ab : Absorbed F D.places R v coef R')
        (low' : (k u : ℕ) → k < D.places → u < k → R' k u ≡ F.zero)
        (e p : ℕ) (e_in : e ≤ D.places) (none : (u : ℕ) → u < e → v u ≡ F.zero) (past : (u : ℕ) → u < D.places → D.pos u < p → u < e)
        (dv : Derived F f p (comb F D.places v (val F n D)))
        (off dif : ℕ → ℕ → K) (out : ℕ → K) (h : ℕ) → h ≤ e → Trimming F n m D R off dif out h → Trimming F n m D R' off dif out h
    grown R v coef R' ab low' e p e_in none past dv off dif out h b t =
        let same = same_row R v coef R' ab low' e p e_in none past dv t.derived in
        record {
          steady = ab.kept m m (omega arith) (λ z. nonzero F (sym t.steady ∙ z)) ∙ t.steady;
          outs = λ u l. t.outs u l ∙ comb_kept D.places R v coef R' ab out t.out_sparse u;
          out_sparse = sparse_kept D.places R v coef R' ab out t.out_sparse;
          off_todo = t.off_todo;
          dif_todo = t.dif_todo;
          off_later = t.off_later;
          dif_later = t.dif_later;
          off_sparse = λ k l. sparse_kept D.places R v coef R' ab (off k) (t.off_sparse k l);
          dif_sparse = λ k l. sparse_kept D.places R v coef R' ab (dif k) (t.dif_sparse k l);
          rests = λ k u l i. ap (λ (r : ℕ → K). rest F D (D.pos k) r u) (same k (omega arith)) ∙ t.rests k u l i ∙ comb_kept D.places R v coef R' ab (off k) (t.off_sparse k l) u;
          gains = λ k u l i. ap (λ (r : ℕ → K). gain F D (D.pos k) r u) (same k (omega arith)) ∙ t.gains k u l i ∙ comb_kept D.places R v coef R' ab (dif k) (t.dif_sparse k l) u;
          derived = derived_kept R v coef R' ab low' e p e_in none past dv t.derived;
        }

    -- the rows of one more place are over the table
    pub noted : (R off dif off' dif' : ℕ → ℕ → K) (out oc dc : ℕ → K) (h : ℕ) → h < m → Trimming F n m D R off dif out h
        → ((u : ℕ) → off' h u ≡ oc u) → ((k u : ℕ) → k ≢ h → k < D.places → off' k u ≡ off k u)
        → ((u : ℕ) → dif' h u ≡ dc u) → ((k u : ℕ) → k ≢ h → k < D.places → dif' k u ≡ dif k u)
        → ((u : ℕ) → u < D.places → D.pos u ≤ D.pos h → oc u ≡ F.zero) → ((u : ℕ) → u < D.places → D.pos u ≤ D.pos h → dc u ≡ F.zero)
        → Sparse F D.places R oc → Sparse F D.places R dc
        → ((u : ℕ) → u < D.places → rest F D (D.pos h) (R h) u ≡ comb F D.places oc R u)
        → ((u : ℕ) → u < D.places → gain F D (D.pos h) (R h) u ≡ comb F D.places dc R u)
        → Trimming F n m D R off' dif' out (h + 1)
    noted R off dif off' dif' out oc dc h b t oh oo dh dd ol dl os ds orest dgain = record {
      steady = t.steady;
      outs = t.outs;
      out_sparse = t.out_sparse;
      off_todo = λ k u l i. oo k u (omega arith) i ∙ t.off_todo k u (omega arith) i;
      dif_todo = λ k u l i. dd k u (omega arith) i ∙ t.dif_todo k u (omega arith) i;
      off_later = λ k u l i q. elim (ℕ_discrete k h) [
        | yes e ↦ ap (λ k. off' k u) e ∙ oh u ∙ ol u i (omega (arith, ap D.pos e))
        | no e ↦ oo k u e (omega arith) ∙ t.off_later k u (omega arith) i q
      ];
      dif_later = λ k u l i q. elim (ℕ_discrete k h) [
        | yes e ↦ ap (λ k. dif' k u) e ∙ dh u ∙ dl u i (omega (arith, ap D.pos e))
        | no e ↦ dd k u e (omega arith) ∙ t.dif_later k u (omega arith) i q
      ];
      off_sparse = λ k l j i z. elim (ℕ_discrete k h) [
        | yes e ↦ ap (λ k. off' k j) e ∙ oh j ∙ os j i z
        | no e ↦ oo k j e (omega arith) ∙ t.off_sparse k (omega arith) j i z
      ];
      dif_sparse = λ k l j i z. elim (ℕ_discrete k h) [
        | yes e ↦ ap (λ k. dif' k j) e ∙ dh j ∙ ds j i z
        | no e ↦ dd k j e (omega arith) ∙ t.dif_sparse k (omega arith) j i z
      ];
      rests = λ k u l i. elim (ℕ_discrete k h) [
        | yes e ↦ ap (λ k. rest F D (D.pos k) (R k) u) e ∙ orest u i ∙ ap (λ (r : ℕ → K). comb F D.places r R u) (fun_ext (λ j. sym (ap (λ k. off' k j) e ∙ oh j)))
        | no e ↦ t.rests k u (omega arith) i ∙ ap (λ (r : ℕ → K). comb F D.places r R u) (fun_ext (λ j. sym (oo k j e (omega arith))))
      ];
      gains = λ k u l i. elim (ℕ_discrete k h) [
        | yes e ↦ ap (λ k. gain F D (D.pos k) (R k) u) e ∙ dgain u i ∙ ap (λ (r : ℕ → K). comb F D.places r R u) (fun_ext (λ j. sym (ap (λ k. dif' k j) e ∙ dh j)))
        | no e ↦ t.gains k u (omega arith) i ∙ ap (λ (r : ℕ → K). comb F D.places r R u) (fun_ext (λ j. sym (dd k j e (omega arith))))
      ];
      derived = t.derived;
    }

    -- a whole turn: the row of h splits into o and d, which go into the table one after the other
    module _ (R : ℕ → ℕ → K) (low : (k u : ℕ) → k < D.places → u < k → R k u ≡ F.zero) (h e : ℕ) (b : h < m) (order_in : h < e) (e_in : e ≤ m)
        (block : (v : ℕ) → h ≤ v → v < e → D.pos v ≡ D.pos h) (late : (v : ℕ) → e ≤ v → v < D.places → D.pos h < D.pos v)
        (off dif : ℕ → ℕ → K) (out : ℕ → K) (t : Trimming F n m D R off dif out h) where
      early : (u : ℕ) → u < D.places → D.pos u < D.pos h → R h u ≡ F.zero
      early u l k = low h u (omega arith) (before u h l k)

      up_to : (u : ℕ) → u < D.places → D.pos u ≤ D.pos h → u < e
      up_to u l k = elim (dec_lt u e) [ yes o ↦ o | no o ↦ absurd (omega (arith, late u (omega arith) l)) ]

      here_is : (rows rows' : ℕ → ℕ → K) → ((k u : ℕ) → h ≤ k → k < D.places → rows' k u ≡ rows k u) → (u : ℕ)
          → comb F D.places (here F D (D.pos h) (R h)) rows u ≡ sum F (e - h) (λ i. R h (h + i) ⊗ rows' (h + i) u)
      here_is rows rows' same u =
          here_block F n D formed (D.pos h) (cells h b) (R h) early h e (omega arith) (omega arith) block (λ v q. low h v (omega arith) q) late rows u
          ∙ sum_cong F (e - h) _ _ (λ i q. ap (◌⊗◌ (R h (h + i))) (sym (same (h + i) u (omega arith) (omega arith))))

      pub rest_is : (o : ℕ → K) → ((u : ℕ) → o u ≡ ite (dec_lt u e) F.zero (R h u) ⊕ sum F (e - h) (λ i. R h (h + i) ⊗ off (h + i) u))
          → (u : ℕ) → u < D.places → o u ≡ rest F D (D.pos h) (R h) u
      rest_is o is u l =
          is u ∙ sym (ap₂ ◌⊕◌
          (after_block F n D formed (D.pos h) (cells h b) (R h) early h e (omega arith) (omega arith) block (λ v q. low h v (omega arith) q) late u l)
          (here_is D.off off (λ k u i j. t.off_todo k u i j) u))

      pub gain_is : (d : ℕ → K) → ((u : ℕ) → d u ≡ sum F (e - h) (λ i. R h (h + i) ⊗ dif (h + i) u)) → (u : ℕ) → d u ≡ gain F D (D.pos h) (R h) u
      gain_is d is u = is u ∙ sym (here_is D.dif dif (λ k u i j. t.dif_todo k u i j) u)

      -- what has the values of the rest is nothing below e
      module _ (o d oc dc : ℕ → K) (R₁ R₂ off' dif' : ℕ → ℕ → K)
          (o_is : (u : ℕ) → o u ≡ ite (dec_lt u e) F.zero (R h u) ⊕ sum F (e - h) (λ i. R h (h + i) ⊗ off (h + i) u))
          (d_is : (u : ℕ) → d u ≡ sum F (e - h) (λ i. R h (h + i) ⊗ dif (h + i) u))
          (ab₁ : Absorbed F D.places R o oc R₁) (ab₂ : Absorbed F D.places R₁ d dc R₂)
          (low₁ : (k u : ℕ) → k < D.places → u < k → R₁ k u ≡ F.zero) (low₂ : (k u : ℕ) → k < D.places → u < k → R₂ k u ≡ F.zero)
          (oh : (u : ℕ) → off' h u ≡ oc u) (oo : (k u : ℕ) → k ≢ h → k < D.places → off' k u ≡ off k u)
          (dh : (u : ℕ) → dif' h u ≡ dc u) (dd : (k u : ℕ) → k ≢ h → k < D.places → dif' k u ≡ dif k u) where
        before_e : (u : ℕ) → u < e → D.pos u ≤ D.pos h
        before_e u l = elim (dec_lt u h) [ yes o ↦ order u h (omega arith) (omega arith) | no o ↦ omega (arith, block u (omega arith) l) ]

        o_none : (u : ℕ) → u < e → o u ≡ F.zero
        o_none u l = rest_is o o_is u (omega arith) ∙ rest_later F n D formed (D.pos h) (cells h b) (R h) early u (omega arith) (before_e u l)

        d_none : (u : ℕ) → u < e → d u ≡ F.zero
        d_none u l = gain_is d d_is u ∙ gain_later F n D formed (D.pos h) (cells h b) (R h) early u (omega arith) (before_e u l)

        o_derived : Derived F f (suc (D.pos h)) (comb F D.places o (val F n D))
        o_derived =
            derived_same F f (comb F D.places (rest F D (D.pos h) (R h)) (val F n D)) (comb F D.places o (val F n D))
            (λ a. sum_cong F D.places _ _ (λ u l. ap (λ x. x ⊗ val F n D u a) (sym (rest_is o o_is u l))))
            (derived_rest F n D formed (D.pos h) (cells h b) (R h) early f (t.derived h b))

        d_derived : Derived F f (suc (D.pos h)) (comb F D.places d (val F n D))
        d_derived =
            derived_same F f (comb F D.places (gain F D (D.pos h) (R h)) (val F n D)) (comb F D.places d (val F n D))
            (λ a. sum_cong F D.places _ _ (λ u l. ap (λ x. x ⊗ val F n D u a) (sym (gain_is d d_is u))))
            (derived_gain F n D formed (D.pos h) (cells h b) (R h) early f (t.derived h b))

        t₁ : Trimming F n m D R₁ off dif out h
        t₁ = grown R o oc R₁ ab₁ low₁ e (suc (D.pos h)) (omega arith) o_none (λ u l k. up_to u l (omega arith)) o_derived off dif out h (omega arith) t

        t₂ : Trimming F n m D R₂ off dif out h
        t₂ = grown R₁ d dc R₂ ab₂ low₂ e (suc (D.pos h)) (omega arith) d_none (λ u l k. up_to u l (omega arith)) d_derived off dif out h (omega arith) t₁

        same : R₂ h ≡ R h
        same = fun_ext (λ u. ab₂.still e (omega arith) d_none h u (omega arith) ∙ ab₁.still e (omega arith) o_none h u (omega arith))

        pub turned : Trimming F n m D R₂ off' dif' out (h + 1)
        turned =
            noted R₂ off dif off' dif' out oc dc h b t₂ oh oo dh dd
            (λ u l k. ab₁.early e (omega arith) o_none u (up_to u l k)) (λ u l k. ab₂.early e (omega arith) d_none u (up_to u l k))
            (sparse_kept D.places R₁ d dc R₂ ab₂ oc ab₁.sparse) ab₂.sparse
            (λ u l. ap (λ (r : ℕ → K). rest F D (D.pos h) r u) same ∙ sym (rest_is o o_is u l) ∙ ab₁.balance u ∙ comb_kept D.places R₁ d dc R₂ ab₂ oc ab₁.sparse u)
            (λ u l. ap (λ (r : ℕ → K). gain F D (D.pos h) r u) same ∙ sym (gain_is d d_is u) ∙ ab₂.balance u)

    -- at the end
    pub ended : (R off dif : ℕ → ℕ → K) (out : ℕ → K) (low : (k u : ℕ) → k < D.places → u < k → R k u ≡ F.zero) → Trimming F n m D R off dif out m → Trims F n D R off dif out
    ended R off dif out low t = record {
      steady_one = λ s l k. (let e : s ≡ m = last s l k in ap (λ i. R i i) e ∙ t.steady);
      steady_zero = λ s u l k i ne. (let e : s ≡ m = last s l k in ap (λ i. R i u) e ∙ low m u (omega arith) (omega arith));
      from = λ h u l k i q. low h u l (before u h i q);
      off_later = λ h u l i q. elim (dec_lt h m) [
        | yes o ↦ t.off_later h u o i q
        | no o ↦ t.off_todo h u (omega arith) l ∙ formed.off_later h u l i q
      ];
      dif_later = λ h u l i q. elim (dec_lt h m) [
        | yes o ↦ t.dif_later h u o i q
        | no o ↦ t.dif_todo h u (omega arith) l ∙ formed.dif_later h u l i q
      ];
      rests = λ h u l k i. t.rests h u (not_last h l k) i;
      gains = λ h u l k i. t.gains h u (not_last h l k) i;
      outs = t.outs;
    }
      where
        last : (s : ℕ) → s < D.places → n ≤ D.pos s → s ≡ m
        last s l k = elim (dec_lt s m) [ yes o ↦ absurd (omega (arith, cells s o)) | no o ↦ omega arith ]

        not_last : (s : ℕ) → s < D.places → D.pos s < n → s < m
        not_last s l k = elim (dec_lt s m) [ yes o ↦ o | no o ↦ absurd (let e : s ≡ m = omega arith in omega (arith, ap D.pos e)) ]

    -- at the start: the outlet goes into a table that has the steady place's row alone
    pub started : (R R' off dif : ℕ → ℕ → K) (out : ℕ → K) → R m m ≡ F.one → ((h u : ℕ) → h < m → R h u ≡ F.zero) → Absorbed F D.places R D.out out R'
        → ((k u : ℕ) → k < D.places → u < k → R' k u ≡ F.zero)
        → ((k u : ℕ) → k < D.places → off k u ≡ D.off k u) → ((k u : ℕ) → k < D.places → dif k u ≡ D.dif k u)
        → Trimming F n m D R' off dif out 0
    started R R' off dif out one blank ab low' offs difs = record {
      steady = ab.kept m m (omega arith) (λ z. nonzero F (sym one ∙ z)) ∙ one;
      outs = λ u l. ab.balance u;
      out_sparse = ab.sparse;
      off_todo = λ k u l i. offs k u i;
      dif_todo = λ k u l i. difs k u i;
      off_later = λ k u l. absurd (omega arith);
      dif_later = λ k u l. absurd (omega arith);
      off_sparse = λ k l. absurd (omega arith);
      dif_sparse = λ k l. absurd (omega arith);
      rests = λ k u l. absurd (omega arith);
      gains = λ k u l. absurd (omega arith);
      derived = derived_kept R D.out out R' ab low' 0 0 (omega arith) (λ u l. absurd (omega arith)) (λ u l k. absurd (omega arith)) itself
          (λ j l. derived_blank F n D f (D.pos j) (R j) (λ u i. blank j u l));
    }
