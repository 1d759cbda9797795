-- The rule of the encoding of a diagram in echelon form is the diagram's rule. Assumes nothing.
use Rattle.std.proofs.Common.{◌≡◌, ℕ, zero, suc, ◌<◌, ◌≤◌, Bool, true, false, cond, eqb, List, [], ◌∷◌, ◌++◌, length, sym, refl, ap, ◌∙◌, ap₂, arith}
use Rattle.std.proofs.lemmas.Bool.{eqb-true, eq-eqb, ne_eqb, cond-true, cond-false}
use Rattle.linear.specs.Codes.{CodeField, Code, codes}
use Rattle.linear.specs.Field.{Field}
use Rattle.linear.specs.Sums.{fold, sum}
use Rattle.linear.proofs.Ring.{zero_plus, zero_times}
use Rattle.linear.proofs.Codes.{fold_cong}
use Rattle.linear.proofs.Sums.{sum_cong, sum_zero, sum_single}
use Rattle.patch.specs.Records.{Record, cell, on, outlet, records, nth, reads, cells_of}
use Rattle.patch.specs.Faults.{Order}
use Rattle.patch.specs.Paths.{target, code, off_from, on_from, opens, starts, path_sum}
use Rattle.patch.specs.Encoding.{written, unless_zero, cell_records, on_records, outlet_records, diagram_records, encode, EchelonNumbers, RowValues}
use Rattle.patch.proofs.Each.{Each, each_gather}
use Rattle.patch.proofs.Encoded.{back, rs_fine, count_is, reads_is}
use Rattle.patch.proofs.Facts.{Facts, facts_of}
use Rattle.patch.proofs.Numbers.{lift, lift_is, dot_number, rule_in_field, flow_lift, has_values}
use Rattle.patch.proofs.Values.{flow_in, push_cond}

module _ {K : Type 0} (F : Field K) where
  open F use {plus as ◌⊕◌, times as ◌⊗◌}

  infixl 60 ◌⊕◌
  infixl 70 ◌⊗◌
  sum_first : (n : ℕ) (f : ℕ → K) → sum F (suc n) f ≡ f 0 ⊕ sum F n (λ i. f (suc i))
  unfolding fold
  sum_first zero f = zero_plus F (f 0) ∙ sym (F.plus_zero (f 0))
  sum_first (suc n) f = ap (λ y. y ⊕ f (suc n)) (sum_first n f) ∙ F.plus_assoc (f 0) _ (f (suc n))

  -- a sum over the records of a list
  module _ (h : Record → K) where
    over : List Record → K
    over [] = F.zero
    over (r ∷ rs) = h r ⊕ over rs

    over_nth : (rs : List Record) → sum F (length rs) (λ k. h (nth rs k)) ≡ over rs
    unfolding over fold
    over_nth [] = refl
    over_nth (r ∷ rs) = sum_first (length rs) (λ k. h (nth (r ∷ rs) k)) ∙ ap (◌⊕◌ (h r)) (over_nth rs)

    over_append : (rs ss : List Record) → over (rs ++ ss) ≡ over rs ⊕ over ss
    unfolding over
    over_append [] ss = sym (zero_plus F (over ss))
    over_append (r ∷ rs) ss = ap (◌⊕◌ (h r)) (over_append rs ss) ∙ sym (F.plus_assoc (h r) (over rs) (over ss))

    over_gather : (n : ℕ) (g : ℕ → List Record) → over (fold [] ◌++◌ n g) ≡ sum F n (λ k. over (g k))
    unfolding over fold
    over_gather zero g = refl
    over_gather (suc n) g = over_append (fold [] ◌++◌ n g) (g n) ∙ ap (λ y. y ⊕ over (g n)) (over_gather n g)

    over_none : (rs : List Record) → Each (λ r. h r ≡ F.zero) rs → over rs ≡ F.zero
    unfolding over
    over_none [] a = refl
    over_none (r ∷ rs) a = ap₂ ◌⊕◌ a.0 (over_none rs a.1) ∙ F.plus_zero F.zero

    over_unless : (c : ℕ) (r : Record) → (c ≡ 0 → h r ≡ F.zero) → over (unless_zero c r) ≡ h r
    unfolding over
    over_unless c r e = go (eqb c 0) refl
      where
        go : (b : Bool) → eqb c 0 ≡ b → over (cond b [] (r ∷ [])) ≡ h r
        go true t = sym (e (eqb-true c 0 t))
        go false t = F.plus_zero (h r)

  module _ (up : ℕ → K) (none : up 0 ≡ F.zero) (k : ℕ) (inp : ℕ → ℕ) (row : ℕ → ℕ → ℕ) (out : ℕ → ℕ) (V : ℕ → K) where
    -- a record's part in a flow
    abbrev part : (Record → Bool) → Record → K
    part pick r = cond (pick r) (up (code r) ⊗ V (target r)) F.zero

    empty : (b : Bool) (c : ℕ) (v : K) → c ≡ 0 → cond b (up c ⊗ v) F.zero ≡ F.zero
    empty true c v e = ap (λ (y : ℕ). up y ⊗ v) e ∙ ap (λ (y : K). y ⊗ v) none ∙ zero_times F v
    empty false c v e = refl

    three : (pick : Record → Bool) → flow_in F up (diagram_records k inp row out) pick V
        ≡ over (part pick) (cell_records k inp row out) ⊕ (over (part pick) (on_records k inp row out) ⊕ over (part pick) (outlet_records k inp row out))
    unfolding diagram_records
    three pick =
        over_nth (part pick) _ ∙ over_append (part pick) (cell_records k inp row out) _
        ∙ ap (◌⊕◌ (over (part pick) (cell_records k inp row out))) (over_append (part pick) (on_records k inp row out) (outlet_records k inp row out))

    over_ons : (pick : Record → Bool)
        → over (part pick) (on_records k inp row out) ≡ sum F k (λ j. sum F (suc j) (λ t. part pick (on (suc j) t (row (suc j) t))))
    over_ons pick =
        over_gather (part pick) k _ ∙ sum_cong F k _ _ (
        λ j h.
        over_gather (part pick) (suc j) _ ∙ sum_cong F (suc j) _ _ (
        λ t l. over_unless (part pick) (row (suc j) t) _ (empty (pick (on (suc j) t (row (suc j) t))) (row (suc j) t) (V t))))

    over_outlets : (pick : Record → Bool) → over (part pick) (outlet_records k inp row out) ≡ sum F (suc k) (λ t. part pick (outlet t (out t)))
    over_outlets pick =
        over_gather (part pick) (suc k) _ ∙ sum_cong F (suc k) _ _ (λ t l. over_unless (part pick) (out t) _ (empty (pick (outlet t (out t))) (out t) (V t)))

    no_cells : (pick : Record → Bool) → ((i : ℕ) → pick (cell i) ≡ false) → over (part pick) (cell_records k inp row out) ≡ F.zero
    no_cells pick e = over_none (part pick) _ (each_gather _ k _ (λ j h. (cond-false _ _ _ (e (inp (suc j))), tt)))

    pub outlet_flow : flow_in F up (diagram_records k inp row out) starts V ≡ sum F (suc k) (λ t. up (out t) ⊗ V t)
    outlet_flow =
        three starts ∙ ap₂ ◌⊕◌ (no_cells starts (λ i. refl)) (
        ap₂ ◌⊕◌ (over_ons starts ∙ sum_zero F k _ (λ j h. sum_zero F (suc j) _ (λ t l. refl))) (over_outlets starts))
        ∙ zero_plus F _ ∙ zero_plus F _

    -- the open arcs of a cell, where its input is b
    pub cell_flow : (b : Bool) (f : ℕ) → f < k
        → flow_in F up (diagram_records k inp row out) (λ r. cond b (on_from (suc f) r) (off_from (suc f) r)) V
        ≡ cond b (sum F (suc f) (λ t. up (row (suc f) t) ⊗ V t)) F.zero
    cell_flow false f h =
        three (off_from (suc f)) ∙ ap₂ ◌⊕◌ (no_cells (off_from (suc f)) (λ i. refl)) (
        ap₂ ◌⊕◌ (over_ons (off_from (suc f)) ∙ sum_zero F k _ (λ j i. sum_zero F (suc j) _ (λ t l. refl))) (
        over_outlets (off_from (suc f)) ∙ sum_zero F (suc k) _ (λ t l. refl)))
        ∙ zero_plus F _ ∙ zero_plus F _
    cell_flow true f h =
        three (on_from (suc f)) ∙ ap₂ ◌⊕◌ (no_cells (on_from (suc f)) (λ i. refl)) (
        ap₂ ◌⊕◌ (over_ons (on_from (suc f)) ∙ ons) (over_outlets (on_from (suc f)) ∙ sum_zero F (suc k) _ (λ t l. refl)))
        ∙ zero_plus F _ ∙ F.plus_zero _
      where
        ons : sum F k (λ j. sum F (suc j) (λ t. part (on_from (suc f)) (on (suc j) t (row (suc j) t)))) ≡ sum F (suc f) (λ t. up (row (suc f) t) ⊗ V t)
        ons =
            sum_single F k (λ j. sum F (suc j) (λ t. part (on_from (suc f)) (on (suc j) t (row (suc j) t)))) f h (
            λ j i ne. sum_zero F (suc j) _ (λ t l. cond-false _ _ _ (ne_eqb (suc f) (suc j) (omega arith))))
            ∙ sum_cong F (suc f) _ _ (λ t l. cond-true _ _ _ (eq-eqb (suc f) (suc f) refl))

module _ {q : ℕ} {plus times : ℕ → ℕ → ℕ} {neg inv : ℕ → ℕ} (C : CodeField q plus times neg inv) (order : List ℕ) (O : Order order)
    (k : ℕ) (inp : ℕ → ℕ) (row : ℕ → ℕ → ℕ) (out head : ℕ → ℕ) (H : EchelonNumbers order q k inp row out head) where
  facts_rs : Facts order q (diagram_records k inp row out)
  facts_rs = facts_of order q (diagram_records k inp row out) O (rs_fine order q k inp row out head H)

  lift_zero : lift C 0 ≡ (codes C).zero
  unfolding codes
  lift_zero = lift_is C 0 _ refl

  lift_one : (n : ℕ) → n ≡ 1 → lift C n ≡ (codes C).one
  unfolding codes
  lift_one n e = lift_is C n _ e

  zero_number : (codes C).zero.0 ≡ 0
  unfolding codes
  zero_number = refl

  -- the rule over the field of codes, for who works there
  pub encoded_in_field : (x : ℕ → Bool) (V : ℕ → Code q) → V 0 ≡ (codes C).one
      → ((f : ℕ) → f < k → V (suc f) ≡ cond (x (inp (suc f))) (sum (codes C) (suc f) (λ t. (codes C).times (lift C (row (suc f) t)) (V t))) (codes C).zero)
      → path_sum plus times (records (encode k inp row out)) (length order) x ≡ (sum (codes C) (suc k) (λ t. (codes C).times (lift C (out t)) (V t))).0
  encoded_in_field x V s e =
      ap (λ (rs : List Record). path_sum plus times rs (length order) x) (back order q k inp row out head H)
      ∙ rule_in_field C order (diagram_records k inp row out) facts_rs x V s cells
      ∙ ap (λ (c : Code q). c.0) (outlet_flow (codes C) (lift C) lift_zero k inp row out V)
    where
      cells : (f : ℕ) → 0 < f → f ≤ cells_of (diagram_records k inp row out)
          → V f ≡ flow_in (codes C) (lift C) (diagram_records k inp row out) (opens (diagram_records k inp row out) x f) V
      cells zero z h = absurd (omega arith)
      cells (suc f) z h =
          let l : suc f ≤ k = omega (arith, count_is order q k inp row out head H) in
          e f l
          ∙ ap (λ (i : ℕ). cond (x i) (sum (codes C) (suc f) (λ t. (codes C).times (lift C (row (suc f) t)) (V t))) (codes C).zero) (sym (reads_is order q k inp row out head H (suc f) z l))
          ∙ sym (cell_flow (codes C) (lift C) lift_zero k inp row out V (x (reads (diagram_records k inp row out) (suc f))) f l)

  -- the open arcs of cell f, in numbers
  cell_number : (x : ℕ → Bool) (V : ℕ → ℕ) → ((u : ℕ) → u ≤ k → V u < q) → (f : ℕ) → suc f ≤ k
      → (flow_in (codes C) (lift C) (diagram_records k inp row out) (opens (diagram_records k inp row out) x (suc f)) (λ u. lift C (V u))).0
      ≡ cond (x (inp (suc f))) (fold 0 plus (suc f) (λ t. times (row (suc f) t) (V t))) 0
  cell_number x V low f l =
      ap (λ (c : Code q). c.0) (cell_flow (codes C) (lift C) lift_zero k inp row out (λ u. lift C (V u)) (x (reads (diagram_records k inp row out) (suc f))) f l)
      ∙ push_cond (λ (c : Code q). c.0) (x (reads (diagram_records k inp row out) (suc f))) _ _
      ∙ ap₂ (cond (x (reads (diagram_records k inp row out) (suc f)))) (
      dot_number C (suc f) (row (suc f)) V (λ t i. H.code (suc f) t (omega arith) l i) (λ t i. low t (omega arith))) zero_number
      ∙ ap (λ (i : ℕ). cond (x i) (fold 0 plus (suc f) (λ t. times (row (suc f) t) (V t))) 0) (reads_is order q k inp row out head H (suc f) (omega arith) l)

  pub encoded_rule : (x : ℕ → Bool) (V : ℕ → ℕ) → ((u : ℕ) → u ≤ k → V u < q) → RowValues plus times k inp row x V
      → path_sum plus times (records (encode k inp row out)) (length order) x ≡ fold 0 plus (suc k) (λ t. times (out t) (V t))
  encoded_rule x V low v =
      ap (λ (rs : List Record). path_sum plus times rs (length order) x) (back order q k inp row out head H)
      ∙ rule_in_field C order (diagram_records k inp row out) facts_rs x (λ u. lift C (V u)) (lift_one (V 0) v.steady) cells
      ∙ ap (λ (c : Code q). c.0) (outlet_flow (codes C) (lift C) lift_zero k inp row out (λ u. lift C (V u)))
      ∙ dot_number C (suc k) out V (λ t h. H.out_code t (omega arith)) (λ t h. low t (omega arith))
    where
      cells : (f : ℕ) → 0 < f → f ≤ cells_of (diagram_records k inp row out)
          → lift C (V f) ≡ flow_in (codes C) (lift C) (diagram_records k inp row out) (opens (diagram_records k inp row out) x f) (λ u. lift C (V u))
      cells zero z h = absurd (omega arith)
      cells (suc f) z h =
          let l : suc f ≤ k = omega (arith, count_is order q k inp row out head H) in
          lift_is C (V (suc f)) _ (v.cell (suc f) z l ∙ sym (cell_number x V low f l))

  pub row_values : (x : ℕ → Bool) → (V : ℕ → ℕ) × ((u : ℕ) → V u < q) × RowValues plus times k inp row x V
  row_values x =
      let h = has_values C order (diagram_records k inp row out) facts_rs x in (
        h.0,
        h.1,
        record {
          steady = h.2.steady;
          cell = elim [
            | zero ↦ (λ z l. absurd (omega arith))
            | suc f ↦
                (λ z l.
                h.2.cell (suc f) z (omega (arith, count_is order q k inp row out head H))
                ∙ sym (flow_lift C order (diagram_records k inp row out) facts_rs x h.0 (λ u _. h.1 u) (opens (diagram_records k inp row out) x (suc f)))
                ∙ cell_number x h.0 (λ u _. h.1 u) f l)
          ];
        },
      )

-- diagrams that agree where it counts have the same bytes
pub encode_same : (k : ℕ) (inp inp' : ℕ → ℕ) (row row' : ℕ → ℕ → ℕ) (out out' : ℕ → ℕ) → ((j : ℕ) → 0 < j → j ≤ k → inp j ≡ inp' j)
    → ((j t : ℕ) → j ≤ k → t < j → row j t ≡ row' j t) → ((t : ℕ) → t ≤ k → out t ≡ out' t) → encode k inp row out ≡ encode k inp' row' out'
unfolding diagram_records
encode_same k inp inp' row row' out out' e f g =
    ap written (
    ap₂ ◌++◌ (fold_cong [] ◌++◌ k _ _ (λ j h. ap (λ (i : ℕ). cell i ∷ []) (e (suc j) (omega arith) (omega arith)))) (
    ap₂ ◌++◌ (
    fold_cong [] ◌++◌ k _ _ (
    λ j h.
    fold_cong [] ◌++◌ (suc j) _ _ (λ t l. ap (λ (c : ℕ). unless_zero c (on (suc j) t c)) (f (suc j) t (omega arith) l)))) (
    fold_cong [] ◌++◌ (suc k) _ _ (λ t l. ap (λ (c : ℕ). unless_zero c (outlet t c)) (g t (omega arith))))))
