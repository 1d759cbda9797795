-- The code that is computed from a form's rows is that of its diagram's rule.
use Rattle.std.proofs.Common.{◌≡◌, ℕ, zero, suc, ◌+◌, ◌-◌, ◌<◌, ◌≤◌, Bool, true, false, cond, ◌&&◌, ◌≢◌, List, length, get_or, take, set, sym, ap, ◌∙◌, ap₂, arith, get_or-set_other, get_or-set_same}
use native.Mathlib.Decide.{ℕ_discrete}
use Rattle.std.proofs.lemmas.Bool.{cond-false, ne_eqb, lt-ltb}
use Rattle.std.proofs.lemmas.List.{get_or-take, length-take-le}
use Rattle.diagram.specs.Canonical.{Echelon}
use Rattle.diagram.specs.Diagram.{Assignment, Diagram, rule, val}
use Rattle.diagram.specs.Patches.{at_settings, reads_as}
use Rattle.diagram.proofs.Cells.{formed, cell_val}
use Rattle.diagram.proofs.Levels.{sum_cut}
use Rattle.diagram.proofs.Patched.{bit_times}
use Rattle.diagram.proofs.Values.{steady_val}
use Rattle.drafting.specs.Meaning.{reading, form_diagram}
use Rattle.elimination.specs.Arithmetic.{arithmetic, plus_is}
use Rattle.elimination.specs.Lift.{Element, scalars, up}
use Rattle.elimination.specs.Rows.{Rows}
use Rattle.elimination.proofs.Answering.{times_answer}
use Rattle.elimination.proofs.Lifting.{up_zero, up_one, up_plus, up_times}
use Rattle.linear.specs.Field.{Field}
use Rattle.linear.specs.Sums.{sum}
use Rattle.linear.proofs.Ring.{zero_times}
use Rattle.linear.proofs.Sums.{sum_cong}
use Rattle.patch.specs.declared.order.ScanOrder.{ScanOrder}
use Rattle.patch.specs.Orders.{listed}
use Rattle.patch.specs.Paths.{bit}
use Rattle.scale.specs.Model.{ScaleModel, at_codes}
use Rattle.strip.specs.Row.{Row}
use Rattle.forms.specs.Forms.{cell_input}
use Rattle.forms.specs.Sounding.{weighed_up, Valued}
use Rattle.forms.proofs.Meaning.{up_number, input_is}
use Rattle.forms.proofs.Writing.{fold_more}

-- one term more of a sum of products
module _ (M : ScaleModel) where
  plus_answer : (a b : ℕ) → a < M.q → b < M.q → at_codes M.q M.plus a b ≡ (arithmetic M).plus a b
  plus_answer a b h k =
      ap₂ (λ (t u : Bool). cond (t && u) (M.plus a b) 0) (lt-ltb a M.q h) (lt-ltb b M.q k) ∙ sym (plus_is M a b h k)

  pub product_code : (p a b : ℕ) → p ≡ at_codes M.q M.times a b → p < M.q
  product_code p a b e = rw (e ∙ times_answer M a b) ((arithmetic M).times_code a b)

  pub sum_code : (r s p : ℕ) → s < M.q → p < M.q → r ≡ at_codes M.q M.plus s p → r < M.q
  sum_code r s p h k e = rw (e ∙ plus_answer s p h k) ((arithmetic M).plus_code s p)

  pub weighed_more : (row : Row) (values : List ℕ) (t s p r c : ℕ) → s < M.q → up M s ≡ weighed_up M row t values → c ≡ row t
      → p ≡ at_codes M.q M.times c (get_or values t 0) → r ≡ at_codes M.q M.plus s p → up M r ≡ weighed_up M row (t + 1) values
  weighed_more row values t s p r c h e f ep er =
      let k : p < M.q = product_code p c (get_or values t 0) ep in
      ap (up M) (er ∙ plus_answer s p h k) ∙ up_plus M s p h k
      ∙ ap₂ (scalars M).plus e (ap (up M) (ep ∙ times_answer M c (get_or values t 0)) ∙ up_times M c (get_or values t 0) ∙ ap (λ x. (scalars M).times (up M x) (up M (get_or values t 0))) f)
      ∙ sym (fold_more (scalars M).zero (scalars M).plus t _)

  -- the first values alone
  pub weighed_part : (row : Row) (values : List ℕ) (m : ℕ) → m ≤ length values → weighed_up M row (length (take m values)) (take m values) ≡ weighed_up M row m values
  weighed_part row values m h =
      let e : length (take m values) ≡ m = length-take-le m values h in
      ap (λ j. weighed_up M row j (take m values)) e
      ∙ sum_cong (scalars M) m _ _ (λ t l. ap (λ x. (scalars M).times (up M (row t)) (up M x)) (get_or-take m values t 0 l))

  -- values from place k on do not count below it
  pub weighed_set : (row : Row) (values : List ℕ) (k v j : ℕ) → j ≤ k → weighed_up M row j (set values k v) ≡ weighed_up M row j values
  weighed_set row values k v j h =
      sum_cong (scalars M) j _ _ (λ t l. let n : t ≢ k = omega arith in ap (λ x. (scalars M).times (up M (row t)) (up M x)) (get_or-set_other values k t v 0 n))

  -- one cell more: where its input reads 1, and where it reads 0
  module _ (rows : ℕ → Row) (inputs : List ℕ) (setting k : ℕ) (values : List ℕ) (v : Valued M rows k inputs setting values) where
    pub valued_on : (x : ℕ) → k + 1 < length values → bit setting (cell_input inputs (k + 1)) ≡ true → up M x ≡ weighed_up M (rows (k + 1)) (k + 1) values
        → Valued M rows (k + 1) inputs setting (set values (k + 1) x)
    valued_on x h b e = record {
      steady = let n : 0 ≢ k + 1 = omega arith in get_or-set_other values (k + 1) 0 x 0 n ∙ v.steady;
      cell = λ j zj l. elim (ℕ_discrete j (k + 1)) [
        | yes s ↦ rw s (
            ap (up M) (get_or-set_same values (k + 1) x 0 h) ∙ e ∙ sym (weighed_set (rows (k + 1)) values (k + 1) x (k + 1) (omega arith))
            ∙ sym (ap (λ t. cond t (weighed_up M (rows (k + 1)) (k + 1) (set values (k + 1) x)) (scalars M).zero) b))
        | no n ↦
            ap (up M) (get_or-set_other values (k + 1) j x 0 n) ∙ v.cell j zj (omega arith)
            ∙ ap (λ y. cond (bit setting (cell_input inputs j)) y (scalars M).zero) (sym (weighed_set (rows j) values (k + 1) x j (omega arith)))
      ];
    }

    pub valued_off : bit setting (cell_input inputs (k + 1)) ≡ false → get_or values (k + 1) 0 ≡ 0 → Valued M rows (k + 1) inputs setting values
    valued_off b e = record {
      steady = v.steady;
      cell = λ j zj l. elim (ℕ_discrete j (k + 1)) [
        | yes s ↦ rw s (ap (up M) e ∙ up_zero M ∙ sym (ap (λ t. cond t (weighed_up M (rows (k + 1)) (k + 1) values) (scalars M).zero) b))
        | no n ↦ v.cell j zj (omega arith)
      ];
    }

  -- where an input is that of the next cell
  pub next_bit : (inputs : List ℕ) (setting k i : ℕ) (b : Bool) → i ≡ get_or inputs k 0 → b ≡ bit setting i → bit setting (cell_input inputs (k + 1)) ≡ b
  next_bit inputs setting k i b e f = let n : k + 1 - 1 ≡ k = omega arith in ap (λ j. bit setting (get_or inputs j 0)) n ∙ ap (bit setting) (sym e) ∙ sym f

  -- two solutions of the equations of a form's values are the same
  same_values : (k : ℕ) (x : ℕ → Bool) (row : ℕ → ℕ → Element M) (V W : ℕ → Element M) → V 0 ≡ W 0
      → ((j : ℕ) → 0 < j → j ≤ k → V j ≡ cond (x j) (sum (scalars M) j (λ t. (scalars M).times (row j t) (V t))) (scalars M).zero)
      → ((j : ℕ) → 0 < j → j ≤ k → W j ≡ cond (x j) (sum (scalars M) j (λ t. (scalars M).times (row j t) (W t))) (scalars M).zero)
      → (m j : ℕ) → j < m → j ≤ k → V j ≡ W j
  same_values k x row V W e ev ew zero j l h = absurd (omega arith)
  same_values k x row V W e ev ew (suc m) zero l h = e
  same_values k x row V W e ev ew (suc m) (suc j) l h =
      ev (suc j) (omega arith) h
      ∙ ap (λ y. cond (x (suc j)) y (scalars M).zero) (
      sum_cong (scalars M) (suc j) _ _ (λ t i. ap ((scalars M).times (row (suc j) t)) (same_values k x row V W e ev ew m t (omega arith) (omega arith))))
      ∙ sym (ew (suc j) (omega arith) h)

  module _ {S : Type 0} (code : S → Row) (strips : List S) (base count : ℕ) (inputs : List ℕ) (setting : ℕ) (order : ScanOrder) where
    abbrev F : Field (Element M)
    F = scalars M

    abbrev n : ℕ
    n = length (listed order)

    abbrev D : Diagram (Element M)
    D = form_diagram M code (listed order) strips base count inputs

    abbrev a : Assignment
    a = reads_as (reading M order) setting

    module _ (ech : Echelon F n D) where
      cell_is : (j : ℕ) → 0 < j → j ≤ count
          → val F n D j a ≡ cond (bit setting (cell_input inputs j)) (sum F j (λ t. F.times (up M (Rows code strips base j t)) (val F n D t a))) F.zero
      cell_is j z h =
          let l : j < count + 1 = omega arith in
          cell_val F n D ech j l (ech.cells j z l) a ∙ bit_times F (a (D.pos j)) _
          ∙ ap₂ (λ (b : Bool) (y : Element M). cond b y F.zero) (ap (bit setting) (input_is M code strips base count inputs order ech.cells j z h))
          (sum_cut F j (count + 1) (λ u. F.times (D.dif j u) (val F n D u a)) (omega arith) (
          λ u k r. ap (λ y. F.times y (val F n D u a)) (ech.dif_later j u l r (ech.falling j u k r)) ∙ zero_times F (val F n D u a))
          ∙ sum_cong F j _ _ (λ u k. ap (λ y. F.times y (val F n D u a)) (cond-false _ _ _ (ne_eqb j 0 (λ e. omega arith)))))

      steady_is : val F n D 0 a ≡ F.one
      steady_is = steady_val F n D (formed F n D ech) 0 (omega (arith, ech.steady)) a

      values_are : (values : List ℕ) → Valued M (Rows code strips base) count inputs setting values → (j : ℕ) → j ≤ count → up M (get_or values j 0) ≡ val F n D j a
      values_are values v j h =
          same_values count (λ i. bit setting (cell_input inputs i)) (λ i t. up M (Rows code strips base i t)) (λ i. up M (get_or values i 0)) (λ i. val F n D i a)
          (ap (up M) v.steady ∙ up_one M ∙ sym steady_is) v.cell cell_is (suc j) j (omega arith) h

      pub sounds_as : (values : List ℕ) (r : ℕ) → Valued M (Rows code strips base) count inputs setting values → r < M.q
          → up M r ≡ weighed_up M (Rows code strips base 0) (count + 1) values → r ≡ at_settings (reading M order) (rule F n D) setting
      sounds_as values r v l e =
          sym (up_number M r l)
          ∙ ap (λ (c : Element M). c.0) (
          e ∙ sum_cong F (count + 1) _ _ (λ t h. ap (F.times (up M (Rows code strips base 0 t))) (values_are values v t (omega arith))))
