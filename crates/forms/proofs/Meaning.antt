-- The bytes of a form are the encoding of its diagram; and the strips of a slot by those that were put into another.
use Rattle.std.proofs.Common.{◌≡◌, ℕ, ◌+◌, ◌-◌, ◌*◌, ◌<◌, ◌≤◌, ◌≢◌, List, length, get_or, sym, ap, ◌∙◌, arith}
use native.Mathlib.Decide.{dec_lt}
use Rattle.std.proofs.lemmas.Bool.{cond-false, ne_eqb}
use Rattle.diagram.specs.Diagram.{Diagram}
use Rattle.diagram.specs.Patches.{encoding}
use Rattle.drafting.specs.Meaning.{reading, form_diagram}
use Rattle.elimination.specs.Lift.{Element, some_code, up}
use Rattle.elimination.specs.Rows.{Rows}
use Rattle.elimination.proofs.Grids.{rows_coded}
use Rattle.linear.proofs.Codes.{coded_number}
use Rattle.patch.specs.declared.order.ScanOrder.{ScanOrder}
use Rattle.patch.specs.Encoding.{encode}
use Rattle.patch.specs.Faults.{position}
use Rattle.patch.specs.Orders.{listed}
use Rattle.patch.proofs.Orders.{lawful, listed_length, position_high}
use Rattle.patch.proofs.Rowsum.{encode_same}
use Rattle.scale.specs.Model.{ScaleModel}
use Rattle.strip.specs.Row.{Row}
use Rattle.forms.specs.Forms.{cell_input, form_bytes}
use Rattle.forms.specs.Keeping.{Filled}

-- a code is the number of its element
pub up_number : (M : ScaleModel) (r : ℕ) → r < M.q → (up M r).0 ≡ r
unfolding up
up_number M r h = coded_number (some_code M) r h

module _ (M : ScaleModel) {S : Type 0} (code : S → Row) (strips : List S) (base count : ℕ) (inputs : List ℕ) (order : ScanOrder) where
  abbrev D : Diagram (Element M)
  D = form_diagram M code (listed order) strips base count inputs

  position_is : (j : ℕ) → 0 < j → D.pos j ≡ position (listed order) (cell_input inputs j)
  position_is j z = cond-false _ _ _ (ne_eqb j 0 (λ e. omega arith))

  -- where the cells read listed inputs
  module _ (cells : (j : ℕ) → 0 < j → j < count + 1 → D.pos j < length (listed order)) where
    -- a cell's position reads its input
    pub input_is : (j : ℕ) → 0 < j → j ≤ count → get_or (listed order) (D.pos j) 0 ≡ cell_input inputs j
    input_is j z h = elim (dec_lt (cell_input inputs j) (length (listed order))) [
      | yes l ↦ ap (λ p. get_or (listed order) p 0) (position_is j z) ∙ (lawful order).there (cell_input inputs j) l
      | no l ↦ absurd (
          omega (arith, position_high order (cell_input inputs j) (omega (arith, listed_length order)), position_is j z, cells j z (omega arith), listed_length order))
    ]

    pub form_encodes : ((s : S) (p : ℕ) → code s p < M.q) → form_bytes code strips base count inputs ≡ encoding (reading M order) D
    form_encodes coded =
        let all : count + 1 - 1 ≡ count = omega arith in
        let number : (j t : ℕ) → Rows code strips base j t ≡ (up M (Rows code strips base j t)).0 =
        λ j t. sym (up_number M (Rows code strips base j t) (rows_coded code M.q (some_code M) coded strips base j t)) in
        encode_same count (cell_input inputs) (λ j. get_or (listed order) (D.pos j) 0) (λ j t. Rows code strips base j t) (λ j t. (D.dif j t).0) (
        λ t. Rows code strips base 0 t) (λ t. (D.out t).0) (λ j z h. sym (input_is j z h)) (
        λ j t h l. number j t ∙ ap (λ (c : Element M). c.0) (sym (cond-false _ _ _ (ne_eqb j 0 (λ e. omega arith))))) (λ t h. number 0 t)
        ∙ ap (λ m. encode m (λ j. get_or (listed order) (D.pos j) 0) (λ j t. (D.dif j t).0) (λ t. (D.out t).0)) (sym all)

-- the strips of another slot are as they were
pub other_slot : {S : Type 0} (code : S → Row) (xs ys : List S) (rows : ℕ → Row) (to s k : ℕ) → Filled code xs (32 * to) rows ys → s ≢ to → k < 32
    → Rows code ys (32 * s) k ≡ Rows code xs (32 * s) k
other_slot code xs ys rows to s k f n l = elim (dec_lt s to) [
  | yes h ↦ f.outside.before (32 * s) k (omega arith)
  | no h ↦ f.outside.after (32 * s) k (omega arith)
]
