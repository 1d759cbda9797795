-- What settling asks of a draft, and what it answers.
use Rattle.std.specs.Prelude.{◌≡◌, ℕ, ◌+◌, ◌<◌, List, Result, MatchResult}
use Rattle.diagram.specs.Diagram.{Assignment, Diagram, Formed, rule}
use Rattle.scale.specs.Model.{ScaleModel}
use Rattle.strip.specs.Row.{Row}
use Rattle.elimination.specs.Lift.{Element, scalars}
use Rattle.settling.specs.declared.draft.Draft.{Draft}
use Rattle.settling.specs.declared.draft.Form.{Form}
use Rattle.settling.specs.declared.draft.TooMany.{TooMany}
use Rattle.settling.specs.Backing.{Derives, Settles, Least}
use Rattle.settling.specs.Draft.{steps, drafted, Bounded}

-- how many positions a draft has
abbrev pub positions : {S : Type 0} → Draft S → ℕ
positions d = steps d.places.pos d.places.cells

-- the diagram that it means, and the rule of that
abbrev pub diagram_of : (M : ScaleModel) → {S : Type 0} → (S → Row) → List S → Draft S → Diagram (Element M)
diagram_of M code work d = drafted M code work d.places.pos d.places.cells (code d.out)

abbrev pub rule_of : (M : ScaleModel) → {S : Type 0} → (S → Row) → List S → Draft S → Assignment → Element M
rule_of M code work d = rule (scalars M) (positions d) (diagram_of M code work d)

-- what settling asks of a draft: a place for each cell and the steady one; rows and outlet hold nothing past the last place. That the places
-- are in order, their type says
pub record Sound {S : Type 0} (code : S → Row) (len : ℕ) (work : List S) (d : Draft S) : Type 0 where
  pub within : d.places.cells < len
  pub bounded : Bounded code work d.places.cells
  pub outlet : (p : ℕ) → d.places.cells < p → code d.out p ≡ 0

-- its rows lead to later positions only: settling ends whether they do or not, but means something only if they do
abbrev pub FormedDraft : (M : ScaleModel) → {S : Type 0} → (S → Row) → List S → Draft S → Type 0
FormedDraft M code work d = Formed (scalars M) (positions d) (diagram_of M code work d)

-- the value of each cell is derived from the draft's rule
abbrev pub DerivesDraft : (M : ScaleModel) → {S : Type 0} → (S → Row) → List S → Draft S → Type 0
DerivesDraft M code work d = Derives M (positions d) d.places.cells (diagram_of M code work d) (rule_of M code work d)

-- a trimmed draft has the rule that it had, and the value of each cell is derived from it
pub record TrimmedDraft (M : ScaleModel) {S : Type 0} (code : S → Row) (work : List S) (d : Draft S) (work' : List S) (d' : Draft S) : Type 0 where
  pub same : (a : Assignment) → rule_of M code work' d' a ≡ rule_of M code work d a
  pub derives : DerivesDraft M code work' d'

-- the answer for the rule f of n positions: its canonical diagram, or that no diagram of at most 31 cells has it
abbrev pub Settled : (M : ScaleModel) → {S : Type 0} → (S → Row) → ℕ → (Assignment → Element M) → List S → Result (Form S) TooMany → Type 0
Settled M code n f work r = MatchResult r (λ v. Settles M code n f work v.places.pos (v.places.cells + 1) (code v.out)) (λ _. Least M n f 33)
