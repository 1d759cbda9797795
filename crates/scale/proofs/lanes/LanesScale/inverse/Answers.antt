use Rattle.std.proofs.Common.{◌∙◌}
use Rattle.scale.specs.Inverse.{inverse_below}
use Rattle.scale.specs.Lanes.{times, inv}
use Rattle.scale.proofs.Tables.{table, entry}
use Rattle.scale.proofs.lanes.LanesScale.inverse.Goals as goal

pub returns : goal.returns
unfolding table times inverse_below
returns c = c.entry.ensures ∙ entry 16 inv c.args.a
