-- Forms laid out by a plan: where their places go, and which of their rows stand there.
use Rattle.std.specs.Prelude.{◌≡◌, ℕ, ◌+◌, ◌-◌, ◌<◌, ◌≤◌, Bool, true, cond, ◌||◌, ◌≢◌, Option, None, Some, List, length, take, drop, ◌==◌, nat_lt, slice_index}
use Rattle.diagram.specs.Passes.{along}
use Rattle.elimination.specs.Lift.{scalars, vec}
use Rattle.elimination.specs.Rows.{Rows}
use Rattle.scale.specs.Model.{ScaleModel}
use Rattle.strip.specs.Row.{Row}
use Rattle.drafting.specs.declared.form.FormView.{FormView}
use Rattle.drafting.specs.declared.part.Part.{Part}
use Rattle.drafting.specs.declared.plan.Plan.{Plan}

-- the part lends the places of so many cells of the plan, from the cell `from` on
pub record PartOf (plan : Plan) (from count : ℕ) (part : Part) : Type 0 where
  pub within : from + count ≤ length plan.place
  pub places : part.places.now ≡ take count (drop from plan.place)
  pub steady : part.steady ≡ plan.places.cells

-- the place of cell t of a part, where 0 is the steady cell, and so is any number past the cells
abbrev pub place_of : Part → ℕ → ℕ
place_of part t = cond (t == 0 || nat_lt (length part.places.now) t) part.steady (slice_index part.places.now (t - 1))

-- the row g is f, each code moved from the place t to ρ t
abbrev pub Moved : ScaleModel → ℕ → (ℕ → ℕ) → Row → Row → Type 0
Moved M count ρ f g = (u : ℕ) → vec M g u ≡ along (scalars M) (count + 1) ρ (vec M f) u

-- the cells 1 .. count of a form have places apart
abbrev pub Apart : ℕ → (ℕ → ℕ) → Type 0
Apart count ρ = (i j : ℕ) → 0 < i → i ≤ count → 0 < j → j ≤ count → ρ i ≡ ρ j → i ≡ j

-- The rows of those of a form's cells 1 .. last - 1 that are chosen stand, moved, at their places, in the area of working memory from `area` on.
-- The other rows there are as they were.
pub record Copied (M : ScaleModel) {S : Type 0} (code : S → Row) (len : ℕ) (part : Part) (form : FormView S) (area : ℕ) (chosen : ℕ → Type 0) (last : ℕ) (work work' : List S) : Type 0 where
  pub rows : part.steady < len → Apart (length form.inputs.now) (place_of part) → (i : ℕ) → 0 < i → i < last → chosen i
      → Moved M (length form.inputs.now) (place_of part) (Rows code form.strips.now 0 i) (Rows code work' area (place_of part i))
  pub rest : (k : ℕ) → k < 128 → ((i : ℕ) → 0 < i → i < last → chosen i → k ≢ place_of part i) → Rows code work' area k ≡ Rows code work area k

-- The cells whose rows stand there at once, and those whose rows stand for good: all and none, if no input is tied;
-- and if one is, those that do not read it, and those that do if it is on.
abbrev pub Free : {S : Type 0} → FormView S → Option (ℕ × Bool) → ℕ → Type 0
Free form None i = Unit
Free form (Some (input, on)) i = slice_index form.inputs.now (i - 1) ≢ input

abbrev pub Held : {S : Type 0} → FormView S → Option (ℕ × Bool) → ℕ → Type 0
Held form None i = ⊥
Held form (Some (input, on)) i = (slice_index form.inputs.now (i - 1) ≡ input) × (on ≡ true)
