use Rattle.std.proofs.Common.{sym, ◌∙◌, arith}
use Rattle.linear.specs.Sums.{fold}
use Rattle.forms.proofs.Continuing.{none_put, then_put, as_put}
use Rattle.forms.proofs.Writing.{arc_more, arc_none}
use Rattle.forms.proofs.encoding.Encoder.put_arcs.Goals as goal
use Rattle.forms.proofs.encoding.Encoder.put_arcs.Goals.{then-c-ne0, else-c-ne0}

pub loop-t-init : goal.loop-t-init
unfolding fold
loop-t-init g c = (omega arith, none_put _)

pub loop-t-preserved : goal.loop-t-preserved
loop-t-preserved g c =
    let row = g.S.Strip.code c.args.row.now in
    let t = c.loop-t.t in
    elim c.if-c-ne0.branch [
      | then-c-ne0 w ↦ rw w.self-is (
        omega (arith, w.put.ensures.next, c.loop-t.invariant.0),
        as_put (arc_more c.args.mark c.args.from row t c.ask-c.result c.ask-c.ensures w.if-c-ne0.true) (then_put c.loop-t.invariant.1 w.put.ensures.puts),
      )
      | else-c-ne0 w ↦ rw w.self-is (
        omega (arith, c.loop-t.invariant.0),
        as_put (arc_none c.args.mark c.args.from row t (sym c.ask-c.ensures ∙ w.if-c-ne0.false)) c.loop-t.invariant.1,
      )
    ]
