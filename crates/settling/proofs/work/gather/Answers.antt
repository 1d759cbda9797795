use Rattle.std.proofs.Common.{arith}
use Rattle.elimination.proofs.Parts.{part_held, gathered_out}
use Rattle.settling.proofs.work.gather.Goals as goal

pub returns : goal.returns
returns g c =
    let s = g.S.Strip in
    let held = part_held s.code c.args.work.now c.args.base _ c.args.to (omega arith) (omega arith) in
    (gathered_out held g.S.Codes.Scale.model (s.code c.args.r.now) c.args.from (s.code c.args.sum.now) (s.code c.gather.new.sum) c.gather.ensures)
