use Rattle.std.proofs.Common.{◌<◌, ◌+◌, ◌∙◌, length, arith}
use Rattle.linear.specs.Sums.{fold}
use Rattle.elimination.specs.Rows.{Rows}
use Rattle.forms.proofs.Continuing.{none_put, then_put, as_put}
use Rattle.forms.proofs.Filling.{part_long, part_read, row_moved}
use Rattle.forms.proofs.Writing.{row_more}
use Rattle.forms.proofs.encoding.Encoder.put_rows.Goals as goal

pub loop-k-init : goal.loop-k-init
unfolding fold
loop-k-init g c = (omega (arith, c.requires.room), none_put _)

pub loop-k-preserved : goal.loop-k-preserved
loop-k-preserved g c =
    let code = g.S.Strip.code in
    let form = c.args.form.now in
    let xs = form.strips.now in
    let n = length form.inputs.now in
    let k = c.loop-k.k in
    let h : k < n = omega (arith, part_long code xs 1 (n + 1) (omega (arith, form.few, form.wide)), c.loop-k-test.true) in
    let row = part_read code xs 1 (n + 1) k c.row-item.result (omega arith) (omega (arith, form.few, form.wide)) c.row-item.is in (
      omega (arith, c.put_arcs.ensures.most, c.loop-k.invariant.0),
      as_put (row_more (Rows code xs 0) k _ (row ∙ row_moved code xs 1 k 0 (k + 1) (omega arith))) (then_put c.loop-k.invariant.1 c.put_arcs.ensures.puts),
    )
