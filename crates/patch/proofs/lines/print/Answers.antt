use Rattle.std.proofs.Common.{◌≤◌, length, arith}
use Rattle.patch.proofs.Putting.{put_whole, put_length}
use Rattle.patch.proofs.lines.print.Goals as goal

pub returns : goal.returns
returns g c =
    let text = g.T.Text.text c.args.text.now in
    let out = c.args.out.now in
    let fits : length text ≤ length out = omega (arith, c.put-length.ensures.ends) in
    (put_length out text _ _ c.put.ensures, fits, put_whole out text _ _ c.put.ensures fits)
