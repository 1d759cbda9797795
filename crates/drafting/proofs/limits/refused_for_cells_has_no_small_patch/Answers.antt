use Rattle.diagram.proofs.OnlyOne.{patches_need}
use Rattle.drafting.specs.Meaning.{reading}
use Rattle.drafting.proofs.limits.refused_for_cells_has_no_small_patch.Goals as goal

pub returns : goal.returns
unfolding Rattle.elimination.specs.Lift.scalars
returns c = λ M s f local least bytes P. patches_need (reading M s) f local 32 least bytes P
