-- Trimming and the backward pass together.
use Rattle.std.proofs.Common.{◌≡◌, ℕ, List, Result, subst, ap}
use mathlib.Core.Path.{fun_ext}
use Rattle.diagram.specs.Diagram.{Assignment}
use Rattle.elimination.specs.Lift.{Element}
use Rattle.scale.specs.Model.{ScaleModel}
use Rattle.settling.specs.Draft.{steps}
use Rattle.settling.specs.Settling.{FormedDraft, DerivesDraft, TrimmedDraft, Settled, positions, rule_of}
use Rattle.settling.specs.declared.draft.Draft.{Draft}
use Rattle.settling.specs.declared.draft.Form.{Form}
use Rattle.settling.specs.declared.draft.Places.{Places}
use Rattle.settling.specs.declared.draft.TooMany.{TooMany}
use Rattle.strip.specs.Row.{Row}

-- what settles a trimmed draft settles the draft that it was
pub settled_trimmed : (M : ScaleModel) {S : Type 0} (code : S → Row) (before after work : List S) (d e : Draft S) (r : Result (Form S) TooMany)
    → e.places ≡ d.places
    → (FormedDraft M code before d → TrimmedDraft M code before d after e)
    → (DerivesDraft M code after e → Settled M code (positions e) (rule_of M code after e) work r)
    → FormedDraft M code before d → Settled M code (positions d) (rule_of M code before d) work r
settled_trimmed M code before after work d e r places trimmed settled formed =
    let f : Assignment → Element M = rule_of M code after e in
    let done = trimmed formed in
    let there : Settled M code (positions d) f work r = subst (λ (n : ℕ). Settled M code n f work r) (ap (λ (p : Places). steps p.pos p.cells) places) (settled done.derives) in
    subst (λ (f : Assignment → Element M). Settled M code (positions d) f work r) (fun_ext done.same) there
