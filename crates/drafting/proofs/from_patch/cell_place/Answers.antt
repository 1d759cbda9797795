use Rattle.std.proofs.Common.{rules, ◌∙◌}
use Rattle.drafting.proofs.Moving.{spot_lent}
use Rattle.drafting.proofs.from_patch.cell_place.Goals as goal

pub returns-clause-is : goal.returns-clause-is
returns-clause-is c = c.place.ensures.is ∙ spot_lent c.args.plan.now c.part.result c.part.ensures (search rules) c.args.cell
