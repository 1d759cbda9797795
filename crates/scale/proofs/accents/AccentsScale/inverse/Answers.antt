use Rattle.std.proofs.Common.{◌∙◌}
use Rattle.scale.specs.Accents.{inv}
use Rattle.scale.specs.Inverse.{inverse_below}
use Rattle.scale.proofs.Tables.{table, entry}
use Rattle.scale.proofs.accents.AccentsScale.inverse.Goals as goal

pub returns : goal.returns
unfolding table inverse_below
returns c = c.entry.ensures ∙ entry 127 inv c.args.a
