-- The rule of a patch, in numbers: by the values of its cells, and by its diagram. Assumes nothing.
use Rattle.std.proofs.Common.{◌≡◌, ℕ, zero, suc, ◌+◌, ◌%◌, ◌<◌, ◌≤◌, Bool, true, false, cond, ◌&&◌, eqb, ◌≢◌, ◌⊎◌, List, [], ◌∷◌, ◌++◌, map, length, sym, refl, ap, ◌∙◌, ap₂, inl, inr, arith}
use mathlib.Core.HLevel.{dec→stable}
use native.Mathlib.Decide.{ℕ_discrete, dec_lt}
use lib.Bits.{bit_and, bit_xor}
use Rattle.std.proofs.lemmas.Bool.{and_parts, cond_both, eqb-true}
use Rattle.linear.specs.Codes.{CodeField, Code, code_eq, codes, as_code}
use Rattle.linear.specs.Sums.{fold, sum}
use Rattle.linear.proofs.Codes.{coded_number, fold_cong, sum_number}
use Rattle.linear.proofs.Sums.{sum_cong}
use Rattle.patch.specs.Records.{Record, filler, cell, off, on, outlet, unmarked, unclean, declared, nth, reads, cells_of}
use Rattle.patch.specs.Faults.{position, Fine, Arc, Later}
use Rattle.patch.specs.Paths.{target, code, off_from, on_from, opens, starts, walks, paths, product, total, path_sum}
use Rattle.patch.specs.Values.{flow, Values, sent, off_to, dif_to, out_to, along, Solves, all_ones, number_of_ones}
use Rattle.patch.proofs.Facts.{Facts}
use Rattle.patch.proofs.Values.{push_cond, cond_when, open_arc, target_known, prod, tot, flow_in, paths_value, sent_in, by_target, open_flow, tot_picked}

pub code_small : (order : List ℕ) (q : ℕ) (cells : List ℕ) (r : Record) → 0 < q → Fine order q cells r → code r < q
code_small order q cells filler z a = z
code_small order q cells (cell i) z a = z
code_small order q cells (off f t c) z a = a.code
code_small order q cells (on f t c) z a = a.code
code_small order q cells (outlet t c) z a = a.1
code_small order q cells unmarked z a = z
code_small order q cells unclean z a = z

module _ {q : ℕ} {plus times : ℕ → ℕ → ℕ} {neg inv : ℕ → ℕ} (C : CodeField q plus times neg inv) where
  abbrev pub lift : ℕ → Code q
  lift = as_code C

  pub lift_number : (n : ℕ) → n < q → (lift n).0 ≡ n
  lift_number = coded_number (omega (arith, C.two))

  pub lift_is : (n : ℕ) (k : Code q) → n ≡ k.0 → lift n ≡ k
  lift_is n k e = code_eq (lift_number n (rw e k.1) ∙ e)

  pub dot_number : (n : ℕ) (r V : ℕ → ℕ) → ((t : ℕ) → t < n → r t < q) → ((t : ℕ) → t < n → V t < q)
      → (sum (codes C) n (λ t. (codes C).times (lift (r t)) (lift (V t)))).0 ≡ fold 0 plus n (λ t. times (r t) (V t))
  unfolding codes
  dot_number n r V lr lv = sum_number C n _ ∙ fold_cong 0 plus n _ _ (λ t h. ap₂ times (lift_number (r t) (lr t h)) (lift_number (V t) (lv t h)))

  module _ (order : List ℕ) (rs : List Record) (A : Facts order q rs) where
    small : (k : ℕ) → code (nth rs k) < q
    small k = code_small order q (declared [] rs) (nth rs k) (omega (arith, C.two)) (A.fine k)

    known : (k : ℕ) → target (nth rs k) ≤ cells_of rs
    known k = target_known order q (declared [] rs) (nth rs k) (A.fine k)

    prod_number : (p : List ℕ) → (prod (codes C) lift rs p).0 ≡ product times rs p
    unfolding prod codes
    prod_number [] = refl
    prod_number (k ∷ p) = ap₂ times (lift_number _ (small k)) (prod_number p)

    pub tot_number : (ps : List (List ℕ)) → (tot (codes C) lift rs ps).0 ≡ total plus (map (product times rs) ps)
    unfolding tot codes
    tot_number [] = refl
    tot_number (p ∷ ps) = ap₂ plus (prod_number p) (tot_number ps)

    -- sums over arcs, and over the places of a vector
    flow_number : (pick : Record → Bool) (V : ℕ → Code q) → (flow_in (codes C) lift rs pick V).0 ≡ flow plus times rs pick (λ u. (V u).0)
    unfolding codes
    flow_number pick V =
        sum_number C (length rs) _ ∙ fold_cong 0 plus (length rs) _ _ (
        λ k h. push_cond (λ (c : Code q). c.0) (pick (nth rs k)) _ _ ∙ cond_when (pick (nth rs k)) _ _ 0 (λ o. ap (λ c. times c (V (target (nth rs k))).0) (lift_number _ (small k))))

    sent_number : (pick : Record → Bool) (u : ℕ) → (sent_in (codes C) lift rs pick u).0 ≡ sent plus rs pick u
    unfolding codes
    sent_number pick u =
        sum_number C (length rs) _ ∙ fold_cong 0 plus (length rs) _ _ (
        λ k h.
        push_cond (λ (c : Code q). c.0) (pick (nth rs k) && eqb u (target (nth rs k))) _ _
        ∙ cond_when (pick (nth rs k) && eqb u (target (nth rs k))) _ _ 0 (λ o. lift_number _ (small k)))

    along_number : (m : ℕ) (v : ℕ → Code q) (w : ℕ → ℕ) (V : ℕ → Code q) → ((u : ℕ) → (v u).0 ≡ w u)
        → (sum (codes C) (suc m) (λ u. (codes C).times (v u) (V u))).0 ≡ along plus times m w (λ u. (V u).0)
    unfolding codes
    along_number m v w V e = sum_number C (suc m) _ ∙ fold_cong 0 plus (suc m) _ _ (λ u h. ap (λ y. times y (V u).0) (e u))

    -- the vectors of the patch's diagram: codes, and 0 but at cell 0 and at cells of a later input
    pub sent_small : (pick : Record → Bool) (u : ℕ) → sent plus rs pick u < q
    sent_small pick u = rw (← (sent_number pick u)) (sent_in (codes C) lift rs pick u).1

    pub dif_small : (t u : ℕ) → dif_to plus rs neg t u < q
    dif_small t u = C.plus_code _ _ (sent_small (on_from t) u) (C.neg_code _ (sent_small (off_from t) u))

    fold_none : (n : ℕ) (f : ℕ → ℕ) → ((i : ℕ) → i < n → f i ≡ 0) → fold 0 plus n f ≡ 0
    unfolding fold
    fold_none zero f e = refl
    fold_none (suc n) f e = ap₂ plus (fold_none n f (λ i h. e i (omega arith))) (e n (omega arith)) ∙ C.plus_zero 0 (omega (arith, C.two))

    pub sent_none : (pick : Record → Bool) (u : ℕ) → ((k : ℕ) → pick (nth rs k) ≡ true → u ≡ target (nth rs k) → ⊥) → sent plus rs pick u ≡ 0
    sent_none pick u never =
        fold_none (length rs) _ (
        λ k h.
        cond_both (pick (nth rs k) && eqb u (target (nth rs k))) (code (nth rs k)) 0 (λ y. y ≡ 0) (
        λ e. let p = and_parts (pick (nth rs k)) (eqb u (target (nth rs k))) e in absurd (never k p.0 (eqb-true u _ p.1))) (λ e. refl))

    off_leads : (t u : ℕ) (r : Record) → Fine order q (declared [] rs) r → off_from t r ≡ true → u ≡ target r → Later order (declared [] rs) t u
    off_leads t u r f o e = rw e (open_arc order q rs (λ _. false) t r f o).leads_later

    on_leads : (t u : ℕ) (r : Record) → Fine order q (declared [] rs) r → on_from t r ≡ true → u ≡ target r → Later order (declared [] rs) t u
    on_leads t u r f o e = rw e (open_arc order q rs (λ _. true) t r f o).leads_later

    later_dec : (t u : ℕ) → Dec (Later order (declared [] rs) t u)
    later_dec t u = go (ℕ_discrete u 0) (dec_lt (position order (reads rs t)) (position order (reads rs u)))
      where
        go : Dec (u ≡ 0) → Dec (position order (reads rs t) < position order (reads rs u)) → Dec (Later order (declared [] rs) t u)
        go (yes z) d = yes (inl z)
        go (no z) (yes l) = yes (inr l)
        go (no z) (no l) = no (λ h. elim h [ inl y ↦ z y | inr y ↦ l y ])

    off_none : (t u : ℕ) → ¬ Later order (declared [] rs) t u → off_to plus rs t u ≡ 0
    off_none t u n = sent_none (off_from t) u (λ k o e. n (off_leads t u (nth rs k) (A.fine k) o e))

    pub off_later : (t u : ℕ) → off_to plus rs t u ≢ 0 → Later order (declared [] rs) t u
    off_later t u n = dec→stable (later_dec t u) (λ l. n (off_none t u l))

    pub dif_later : (t u : ℕ) → dif_to plus rs neg t u ≢ 0 → Later order (declared [] rs) t u
    dif_later t u n =
        dec→stable (later_dec t u) (
        λ l.
        n (
        ap₂ (λ a b. plus a (neg b)) (sent_none (on_from t) u (λ k o e. l (on_leads t u (nth rs k) (A.fine k) o e))) (off_none t u l)
        ∙ C.plus_neg 0 (omega (arith, C.two))))

    module _ (x : ℕ → Bool) where
      -- over the field of codes, for who works there
      pub rule_in_field : (V : ℕ → Code q) → V 0 ≡ (codes C).one → ((f : ℕ) → 0 < f → f ≤ cells_of rs → V f ≡ flow_in (codes C) lift rs (opens rs x f) V)
          → path_sum plus times rs (length order) x ≡ (flow_in (codes C) lift rs starts V).0
      rule_in_field V s e = sym (tot_number (paths rs (length order) x)) ∙ ap (λ (c : Code q). c.0) (paths_value (codes C) lift rs order q A x V s e)

      off_lift : (pick : Record → Bool) (u : ℕ) → lift (sent plus rs pick u) ≡ sent_in (codes C) lift rs pick u
      off_lift pick u = lift_is _ _ (sym (sent_number pick u))

      dif_lift : (f u : ℕ) → lift (dif_to plus rs neg f u) ≡ (codes C).plus (sent_in (codes C) lift rs (on_from f) u) ((codes C).neg (sent_in (codes C) lift rs (off_from f) u))
      unfolding codes
      dif_lift f u = lift_is _ _ (sym (ap₂ (λ a b. plus a (neg b)) (sent_number (on_from f) u) (sent_number (off_from f) u)))

      -- the rule by the patch's diagram, over the field of codes
      pub diagram_in_field : (V : ℕ → Code q) → V 0 ≡ (codes C).one
          → ((t : ℕ) → 0 < t → t ≤ cells_of rs
          → V t ≡ (codes C).plus (sum (codes C) (suc (cells_of rs)) (λ u. (codes C).times (lift (off_to plus rs t u)) (V u))) (
          cond (x (reads rs t)) (sum (codes C) (suc (cells_of rs)) (λ u. (codes C).times (lift (dif_to plus rs neg t u)) (V u))) (codes C).zero))
          → path_sum plus times rs (length order) x ≡ (sum (codes C) (suc (cells_of rs)) (λ u. (codes C).times (lift (out_to plus rs u)) (V u))).0
      diagram_in_field V s e =
          rule_in_field V s (
          λ f z h.
          e f z h
          ∙ ap₂ (codes C).plus (sum_cong (codes C) (suc (cells_of rs)) _ _ (λ u l. ap (λ y. (codes C).times y (V u)) (off_lift (off_from f) u))) (
          ap (λ y. cond (x (reads rs f)) y (codes C).zero) (sum_cong (codes C) (suc (cells_of rs)) _ _ (λ u l. ap (λ y. (codes C).times y (V u)) (dif_lift f u))))
          ∙ open_flow (codes C) lift rs (cells_of rs) known x f V)
          ∙ ap (λ (c : Code q). c.0) (
          by_target (codes C) lift rs (cells_of rs) known starts V
          ∙ sum_cong (codes C) (suc (cells_of rs)) _ _ (λ u l. ap (λ y. (codes C).times y (V u)) (sym (off_lift starts u))))

      module _ (V : ℕ → ℕ) (low : (u : ℕ) → u ≤ cells_of rs → V u < q) where
        pub flow_lift : (pick : Record → Bool) → (flow_in (codes C) lift rs pick (λ u. lift (V u))).0 ≡ flow plus times rs pick V
        flow_lift pick =
            flow_number pick (λ u. lift (V u)) ∙ fold_cong 0 plus (length rs) _ _ (
            λ k h. cond_when (pick (nth rs k)) _ _ 0 (λ o. ap (times (code (nth rs k))) (lift_number _ (low _ (known k)))))

        along_lift : (v : ℕ → Code q) (w : ℕ → ℕ) → ((u : ℕ) → (v u).0 ≡ w u)
            → (sum (codes C) (suc (cells_of rs)) (λ u. (codes C).times (v u) (lift (V u)))).0 ≡ along plus times (cells_of rs) w V
        along_lift v w e =
            along_number (cells_of rs) v w (λ u. lift (V u)) e ∙ fold_cong 0 plus (suc (cells_of rs)) _ _ (λ u h. ap (times (w u)) (lift_number _ (low u (omega arith))))

        one_number : V 0 ≡ 1 → lift (V 0) ≡ (codes C).one
        unfolding codes
        one_number e = lift_is (V 0) _ e

        -- the rule by the values of the cells
        pub rule_by_values : Values plus times rs x V → path_sum plus times rs (length order) x ≡ flow plus times rs starts V
        rule_by_values v =
            rule_in_field (λ u. lift (V u)) (one_number v.steady) (λ f z h. lift_is (V f) _ (v.cell f z h ∙ sym (flow_lift (opens rs x f)))) ∙ flow_lift starts

        cell_number : (f : ℕ) → plus (along plus times (cells_of rs) (off_to plus rs f) V) (cond (x (reads rs f)) (along plus times (cells_of rs) (dif_to plus rs neg f) V) 0)
            ≡ (flow_in (codes C) lift rs (opens rs x f) (λ u. lift (V u))).0
        unfolding codes
        cell_number f =
            sym (
            ap₂ plus (along_lift (sent_in (codes C) lift rs (off_from f)) (off_to plus rs f) (sent_number (off_from f))) (
            push_cond (λ (c : Code q). c.0) (x (reads rs f)) _ _ ∙ cond_when (x (reads rs f)) _ _ 0 (
            λ o.
            along_lift (λ u. (codes C).plus (sent_in (codes C) lift rs (on_from f) u) ((codes C).neg (sent_in (codes C) lift rs (off_from f) u))) (dif_to plus rs neg f) (
            λ u. ap₂ (λ a b. plus a (neg b)) (sent_number (on_from f) u) (sent_number (off_from f) u)))))
            ∙ ap (λ (c : Code q). c.0) (open_flow (codes C) lift rs (cells_of rs) known x f (λ u. lift (V u)))

        -- the rule by the patch's diagram
        pub rule_by_diagram : Solves plus times (cells_of rs) (reads rs) (off_to plus rs) (dif_to plus rs neg) x V
            → path_sum plus times rs (length order) x ≡ along plus times (cells_of rs) (out_to plus rs) V
        rule_by_diagram v =
            rule_in_field (λ u. lift (V u)) (one_number v.steady) (λ f z h. lift_is (V f) _ (v.cell f z h ∙ cell_number f))
            ∙ ap (λ (c : Code q). c.0) (by_target (codes C) lift rs (cells_of rs) known starts (λ u. lift (V u)))
            ∙ along_lift (sent_in (codes C) lift rs starts) (out_to plus rs) (sent_number starts)

      -- there are such values: the sums over the walks from each cell
      Enough : ℕ → ℕ → Type 0
      Enough d f = (f ≡ 0) ⊎ (length order ≤ position order (reads rs f) + d)

      next : (d f t c : ℕ) → Arc order q (declared [] rs) (suc f) t c → Enough (suc d) (suc f) → Enough d t
      unfolding Enough
      next d f t c a (inl z) = absurd (omega arith)
      next d f t c a (inr m) = elim a.leads_later [ inl z ↦ inl z | inr l ↦ inr (omega arith) ]

      none_left : (f : ℕ) → suc f ≤ cells_of rs → Enough 0 (suc f) → ⊥
      unfolding Enough
      none_left f l (inl z) = omega arith
      none_left f l (inr m) = omega (arith, A.place_is (suc f) (omega arith) l)

      stable : (d e f : ℕ) → f ≤ cells_of rs → Enough d f → Enough e f → walks rs x d f ≡ walks rs x e f
      unfolding walks
      stable d e zero l h k = refl
      stable zero e (suc f) l h k = absurd (none_left f l h)
      stable (suc d) zero (suc f) l h k = absurd (none_left f l k)
      stable (suc d) (suc e) (suc f) l h k =
          fold_cong [] ◌++◌ (length rs) _ _ (
          λ j i.
          cond_when (opens rs x (suc f) (nth rs j)) _ _ [] (
          λ o.
          let a = open_arc order q rs x (suc f) (nth rs j) (A.fine j) o in
          ap (map (◌∷◌ j)) (stable d e (target (nth rs j)) a.to_known (next d f _ _ a h) (next e f _ _ a k))))

      all_of : (t : ℕ) → Enough (length order) t
      unfolding Enough
      all_of t = inr (omega arith)

      step_of : (n f : ℕ) → n ≡ length order → suc f ≤ cells_of rs
          → tot (codes C) lift rs (walks rs x n (suc f)) ≡ flow_in (codes C) lift rs (opens rs x (suc f)) (λ u. tot (codes C) lift rs (walks rs x (length order) u))
      unfolding walks
      step_of zero f e l = absurd (none_left f l (rw e (all_of (suc f))))
      step_of (suc d) f e l =
          ap (tot (codes C) lift rs) (
          fold_cong [] ◌++◌ (length rs) _ _ (
          λ j i.
          cond_when (opens rs x (suc f) (nth rs j)) _ _ [] (
          λ o.
          let a = open_arc order q rs x (suc f) (nth rs j) (A.fine j) o in
          ap (map (◌∷◌ j)) (stable d (length order) (target (nth rs j)) a.to_known (next d f _ _ a (rw e (all_of (suc f)))) (all_of (target (nth rs j)))))))
          ∙ tot_picked (codes C) lift rs (opens rs x (suc f)) (walks rs x (length order))

      pub has_values : (V : ℕ → ℕ) × ((u : ℕ) → V u < q) × Values plus times rs x V
      unfolding walks tot prod codes
      has_values = (
        (λ u. (tot (codes C) lift rs (walks rs x (length order) u)).0),
        (λ u. (tot (codes C) lift rs (walks rs x (length order) u)).1),
        record {
          steady = C.plus_zero 1 C.two;
          cell = elim [
            | zero ↦ (λ z l. absurd (omega arith))
            | suc f ↦ (λ z l. ap (λ (c : Code q). c.0) (step_of (length order) f refl l) ∙ flow_number (opens rs x (suc f)) (λ u. tot (codes C) lift rs (walks rs x (length order) u)))
          ];
        },
      )

-- at gates: the parity of the paths all of whose codes are 1
module _ (rs : List Record) (bits : (k : ℕ) → code (nth rs k) < 2) where
  and_bit : (c : ℕ) (b : Bool) → c < 2 → bit_and c (cond b 1 0) ≡ cond (eqb c 1 && b) 1 0
  and_bit zero b h = refl
  and_bit (suc zero) true h = refl
  and_bit (suc zero) false h = refl
  and_bit (suc (suc c)) b h = absurd (omega arith)

  xor_bit : (b : Bool) (n m : ℕ) → n % 2 ≡ m → bit_xor (cond b 1 0) m ≡ cond b (n + 1) n % 2
  xor_bit false n m e = sym e
  xor_bit true n zero e = omega arith
  xor_bit true n (suc zero) e = omega arith
  xor_bit true n (suc (suc m)) e = absurd (omega arith)

  product_bit : (p : List ℕ) → product bit_and rs p ≡ cond (all_ones rs p) 1 0
  product_bit [] = refl
  product_bit (k ∷ p) = ap (bit_and (code (nth rs k))) (product_bit p) ∙ and_bit (code (nth rs k)) (all_ones rs p) (bits k)

  pub parity : (ps : List (List ℕ)) → total bit_xor (map (product bit_and rs) ps) ≡ number_of_ones rs ps % 2
  parity [] = refl
  parity (p ∷ ps) = ap₂ bit_xor (product_bit p) (parity ps) ∙ xor_bit (all_ones rs p) (number_of_ones rs ps) _ refl
