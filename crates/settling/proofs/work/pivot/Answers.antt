use Rattle.std.proofs.Common.{◌-◌, length, refl, ◌∙◌, arith}
use Rattle.elimination.proofs.Parts.{part_held}
use Rattle.elimination.proofs.Sums.{at}
use Rattle.settling.proofs.work.pivot.Goals as goal

pub returns : goal.returns
returns g c =
    let w = c.args.work.now in
    let held = part_held g.S.Strip.code w c.args.base _ (length w - c.args.base) refl (omega arith) in
    (c.pivot.ensures ∙ at (held.rows c.args.h (omega arith)) c.args.h)
