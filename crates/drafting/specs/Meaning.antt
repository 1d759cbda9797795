-- What a draft means: a diagram with a rule, well formed, over the positions of a scan order.
use Rattle.std.specs.Prelude.{◌≡◌, ℕ, ◌+◌, ◌-◌, ◌<◌, Bool, cond, List, length, ◌==◌, slice_index}
use Rattle.std.proofs.Common.{arith}
use Rattle.diagram.specs.Diagram.{Assignment, Diagram, Formed, rule, turn}
use Rattle.diagram.specs.Patches.{Reading, patch_diagram}
use Rattle.diagram.specs.Patches.{scalars as scalars_of}
use Rattle.elimination.specs.Lift.{Element, scalars, up, Grid}
use Rattle.patch.specs.Faults.{position}
use Rattle.patch.specs.Orders.{listed}
use Rattle.patch.specs.declared.order.ScanOrder.{ScanOrder}
use Rattle.patch.proofs.Orders.{lawful}
use Rattle.scale.specs.Model.{ScaleModel}
use Rattle.settling.specs.declared.draft.Draft.{Draft}
use Rattle.settling.specs.Settling.{positions, rule_of, FormedDraft}
use Rattle.strip.specs.Row.{Row}
use Rattle.drafting.specs.declared.form.FormView.{FormView}

-- patches are read by the codes of a scale, in a scan order
abbrev pub reading : ScaleModel → ScanOrder → Reading
reading M s = record {
  q = M.q;
  plus = M.plus;
  times = M.times;
  neg = M.neg;
  inv = M.inv;
  field = M.field;
  few = omega (arith, M.few);
  order = listed s;
  ordered = lawful s;
}

-- the rule of a patch, over the positions of a scan order
abbrev pub patch_rule : (M : ScaleModel) → ScanOrder → List ℕ → Assignment → Element M
patch_rule M s bytes = rule (scalars_of (reading M s)) (length (listed s)) (patch_diagram (reading M s) bytes)

-- the draft means a diagram over n positions that is well formed and has the rule f
pub record Drafts (M : ScaleModel) {S : Type 0} (code : S → Row) (work : List S) (d : Draft S) (n : ℕ) (f : Assignment → Element M) : Type 0 where
  pub over : positions d ≡ n
  pub formed : FormedDraft M code work d
  pub same : (a : Assignment) → rule_of M code work d a ≡ f a

-- A form that stands in strips: its outlet at base, the row of cell j at base + j; cell j reads the j-th input. Place 0 is the steady cell, which has no row.
abbrev pub form_diagram : (M : ScaleModel) → {S : Type 0} → (S → Row) → List ℕ → List S → ℕ → ℕ → List ℕ → Diagram (Element M)
form_diagram M code order strips base count inputs = record {
  places = count + 1;
  pos = λ t. cond (t == 0) (length order) (position order (slice_index inputs (t - 1)));
  off = λ _ _. (scalars M).zero;
  dif = λ j t. cond (j == 0) (scalars M).zero (Grid M code strips base j t);
  out = λ t. Grid M code strips base 0 t;
}

abbrev pub form_of : (M : ScaleModel) → {S : Type 0} → (S → Row) → ScanOrder → FormView S → Diagram (Element M)
form_of M code s f = form_diagram M code (listed s) f.strips.now 0 (length f.inputs.now) f.inputs.now

-- the draft of the sum of one form and c times another, if both are well formed
abbrev pub DraftsSum : (M : ScaleModel) → {S : Type 0} → (S → Row) → ScanOrder → FormView S → ℕ → FormView S → List S → Draft S → Type 0
DraftsSum M code s a c b work d =
    let F = scalars M in
    let n = length (listed s) in
    let P = form_of M code s a in
    let Q = form_of M code s b in
    Formed F n P → Formed F n Q → Drafts M code work d n (λ x. F.plus (rule F n P x) (F.times (up M c) (rule F n Q x)))

-- the draft of a form in which an input always reads as `on` says, if the form is well formed and there is such an input
abbrev pub DraftsTied : (M : ScaleModel) → {S : Type 0} → (S → Row) → ScanOrder → FormView S → ℕ → Bool → List S → Draft S → Type 0
DraftsTied M code s form input on work d =
    let F = scalars M in
    let n = length (listed s) in
    let P = form_of M code s form in
    input < n → Formed F n P → Drafts M code work d n (λ x. rule F n P (turn (position (listed s) input) on x))
