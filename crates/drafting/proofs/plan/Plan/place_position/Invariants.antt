use Rattle.std.proofs.Common.{length}
use Rattle.drafting.specs.Plan.{PlacingBy}
use Rattle.drafting.proofs.plan.Plan.place_position.Given as goal

abbrev pub invariant-loop-c : goal.invariant-loop-c
invariant-loop-c l = PlacingBy l.positions (length l.positions) l.n l.p l.c l.self.places l.self.place
