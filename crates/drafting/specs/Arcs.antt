-- What the records of a patch bring into the rows of a draft, whose cells stand where a plan says.
use Rattle.std.specs.Prelude.{◌≡◌, ℕ, ◌-◌, ◌<◌, ◌≤◌, cond, ◌||◌, List, length, ◌==◌, nat_lt, slice_index}
use Rattle.std.proofs.Math.Logic.{ite}
use Rattle.std.proofs.Math.Decide.{ℕ_discrete}
use Rattle.linear.specs.Sums.{sum}
use Rattle.elimination.specs.Lift.{Element, scalars, up, Grid}
use Rattle.patch.specs.Faults.{position}
use Rattle.patch.specs.Paths.{target}
use Rattle.patch.specs.Records.{Record, filler, cell, off, on, outlet, unmarked, unclean, nth}
use Rattle.scale.specs.Model.{ScaleModel}
use Rattle.strip.specs.Row.{Row}
use Rattle.drafting.specs.declared.plan.Plan.{Plan}

-- ps are the positions of some inputs in a scan order
abbrev pub Positions : List ℕ → List ℕ → List ℕ → Type 0
Positions order inputs ps = (i : ℕ) → i < length inputs → slice_index ps i ≡ position order (slice_index inputs i)

-- the place of cell f in a draft of m cells: cell 0 is the steady one, and so is, as a plan has room for 128 cells, any number past them
abbrev pub spot : ℕ → List ℕ → ℕ → ℕ
spot m place f = cond (f == 0 || nat_lt 128 f) m (slice_index place (f - 1))

-- the same, by a plan
abbrev pub spots : Plan → ℕ → ℕ
spots plan = spot plan.places.cells plan.place

module _ (M : ScaleModel) where
  -- at u: x, if u is the place v, and else nothing
  abbrev pub only : ℕ → ℕ → Element M → Element M
  only v u x = ite (ℕ_discrete u v) x (scalars M).zero

  -- the code of a record in the row h: of an off arc, of an on arc, of an outlet arc
  abbrev pub from_off : (ℕ → ℕ) → Record → ℕ → Element M
  from_off ρ filler h = (scalars M).zero
  from_off ρ (cell i) h = (scalars M).zero
  from_off ρ (off f t c) h = only (ρ f) h (up M c)
  from_off ρ (on f t c) h = (scalars M).zero
  from_off ρ (outlet t c) h = (scalars M).zero
  from_off ρ unmarked h = (scalars M).zero
  from_off ρ unclean h = (scalars M).zero

  abbrev pub from_on : (ℕ → ℕ) → Record → ℕ → Element M
  from_on ρ filler h = (scalars M).zero
  from_on ρ (cell i) h = (scalars M).zero
  from_on ρ (off f t c) h = (scalars M).zero
  from_on ρ (on f t c) h = only (ρ f) h (up M c)
  from_on ρ (outlet t c) h = (scalars M).zero
  from_on ρ unmarked h = (scalars M).zero
  from_on ρ unclean h = (scalars M).zero

  abbrev pub from_outlet : Record → Element M
  from_outlet filler = (scalars M).zero
  from_outlet (cell i) = (scalars M).zero
  from_outlet (off f t c) = (scalars M).zero
  from_outlet (on f t c) = (scalars M).zero
  from_outlet (outlet t c) = up M c
  from_outlet unmarked = (scalars M).zero
  from_outlet unclean = (scalars M).zero

  -- what it brings to the place u of the rows h, and of the outlet: on minus off counts as dif
  abbrev pub off_part : (ℕ → ℕ) → Record → ℕ → ℕ → Element M
  off_part ρ r h u = only (ρ (target r)) u (from_off ρ r h)

  abbrev pub dif_part : (ℕ → ℕ) → Record → ℕ → ℕ → Element M
  dif_part ρ r h u = only (ρ (target r)) u ((scalars M).plus (from_on ρ r h) ((scalars M).neg (from_off ρ r h)))

  abbrev pub out_part : (ℕ → ℕ) → Record → ℕ → Element M
  out_part ρ r u = only (ρ (target r)) u (from_outlet r)

-- the rows and the outlet with one record entered
pub record Entered (M : ScaleModel) {S : Type 0} (code : S → Row) (ρ : ℕ → ℕ) (r : Record) (w : List S) (o : Row) (w' : List S) (o' : Row) : Type 0 where
  pub off : (h u : ℕ) → h < 128 → Grid M code w' 0 h u ≡ (scalars M).plus (Grid M code w 0 h u) (off_part M ρ r h u)
  pub dif : (h u : ℕ) → h < 128 → Grid M code w' 128 h u ≡ (scalars M).plus (Grid M code w 128 h u) (dif_part M ρ r h u)
  pub out : (u : ℕ) → up M (o' u) ≡ (scalars M).plus (up M (o u)) (out_part M ρ r u)

-- the rows of the places 0 to m and the outlet, with the first k of some records entered, and nothing else
pub record Summed (M : ScaleModel) {S : Type 0} (code : S → Row) (ρ : ℕ → ℕ) (rs : List Record) (k m : ℕ) (w : List S) (o : Row) : Type 0 where
  pub off : (h u : ℕ) → h ≤ m → Grid M code w 0 h u ≡ sum (scalars M) k (λ i. off_part M ρ (nth rs i) h u)
  pub dif : (h u : ℕ) → h ≤ m → Grid M code w 128 h u ≡ sum (scalars M) k (λ i. dif_part M ρ (nth rs i) h u)
  pub out : (u : ℕ) → up M (o u) ≡ sum (scalars M) k (λ i. out_part M ρ (nth rs i) u)
