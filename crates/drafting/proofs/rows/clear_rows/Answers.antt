use Rattle.std.proofs.Common.{◌<◌, drop, ◌++◌, arith}
use Rattle.settling.proofs.Fronts.{Front, front_put, beyond_put, bounded_front}
use Rattle.drafting.proofs.Fronts.{blank_front}
use Rattle.drafting.proofs.rows.clear_rows.Goals as goal

pub returns : goal.returns
returns g c =
    let code = g.S.Strip.code in
    let v = c.args.work.now in
    let w = c.clear_work.new.work in
    let few : c.args.m < 128 = omega (arith, c.requires.few) in
    let after : Front code w (w ++ drop 512 v) = front_put code v w c.requires.room c.still_whole.ensures in
    record {
      blank = blank_front code w _ after c.args.m few c.clear_work.ensures.blank;
      bounded = bounded_front g.S.Codes.Scale.model code w _ after c.args.m few c.clear_work.ensures.bounded;
      beyond = beyond_put code v w c.requires.room c.still_whole.ensures;
    }
