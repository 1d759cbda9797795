-- The code of a form at a setting.
use Rattle.std.specs.Prelude.{◌≡◌, ℕ, ◌<◌, ◌≤◌, cond, List, length, slice_index, slice_index_or}
use Rattle.diagram.specs.Canonical.{Echelon}
use Rattle.diagram.specs.Diagram.{rule}
use Rattle.diagram.specs.Patches.{at_settings}
use Rattle.drafting.specs.Meaning.{reading, form_diagram}
use Rattle.elimination.specs.Lift.{Element, scalars, up}
use Rattle.linear.specs.Sums.{sum}
use Rattle.patch.specs.declared.order.ScanOrder.{ScanOrder}
use Rattle.patch.specs.Orders.{listed}
use Rattle.patch.specs.Paths.{bit}
use Rattle.scale.specs.Model.{ScaleModel}
use Rattle.strip.specs.Row.{Row}
use Rattle.forms.specs.Forms.{cell_input}

-- the sum of what a row holds at each of the first places times the value there
abbrev pub weighed_up : (M : ScaleModel) → Row → ℕ → List ℕ → Element M
weighed_up M row places values = sum (scalars M) places (λ t. (scalars M).times (up M (row t)) (up M (slice_index values t)))

-- Values of a form's cells at a setting: 1 for the steady cell; a cell is worth 0 where its input reads 0, and else its row, weighed by the cells of lower numbers.
pub record Valued (M : ScaleModel) (rows : ℕ → Row) (count : ℕ) (inputs : List ℕ) (setting : ℕ) (values : List ℕ) : Type 0 where
  pub steady : slice_index_or values 0 0 ≡ 1
  pub cell : (j : ℕ) → 0 < j → j ≤ count → up M (slice_index values j) ≡ cond (bit setting (cell_input inputs j)) (weighed_up M (rows j) j values) (scalars M).zero

-- In a scan order in which the form is in echelon form, c is the code of its diagram's rule at the setting.
abbrev pub Sounds : (M : ScaleModel) → {S : Type 0} → (S → Row) → List S → ℕ → ℕ → List ℕ → ℕ → ℕ → Type 0
Sounds M code strips base count inputs setting c =
    (order : ScanOrder) → Echelon (scalars M) (length (listed order)) (form_diagram M code (listed order) strips base count inputs)
    → c ≡ at_settings (reading M order) (rule (scalars M) (length (listed order)) (form_diagram M code (listed order) strips base count inputs)) setting
