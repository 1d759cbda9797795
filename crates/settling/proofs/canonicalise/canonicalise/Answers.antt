use Rattle.std.proofs.Common.{◌≡◌, length, drop, ◌++◌, arith}
use Rattle.settling.proofs.Fronts.{Front, front_taken, front_put, beyond_put, settled_out}
use Rattle.settling.proofs.canonicalise.canonicalise.Goals as goal

pub returns : goal.returns
returns g c =
    let s = g.S.Strip in
    let v = c.args.work.now in
    let w = c.canonicalise_work-settled.new.work in
    let before : Front s.code v c.over-work.result.now = rw c.over-work.ensures.first (front_taken s.code v) in
    record {
      settled = settled_out g.S.Codes.Scale.model s.code c.over-work.result.now v w (w ++ drop 512 v) before (front_put s.code v w c.requires.room c.still_whole.ensures) c.args.d.now c.canonicalise_work-settled.result c.canonicalise_work-settled.ensures;
      beyond = beyond_put s.code v w c.requires.room c.still_whole.ensures;
    }
