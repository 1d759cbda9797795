use Rattle.std.proofs.Common.{length}
use Rattle.drafting.specs.Plan.{PlacingBy}
use Rattle.drafting.proofs.plan.place_cells.Given as goal

abbrev pub invariant-loop-p : goal.invariant-loop-p
invariant-loop-p l = PlacingBy l.positions (length l.positions) l.n l.p 0 l.plan.places l.plan.place
