use Rattle.elimination.specs.Lift.{some_code}
use Rattle.elimination.proofs.Lifting.{up_zero}
use Rattle.linear.specs.Sums.{fold}
use Rattle.forms.proofs.Sounding.{product_code, sum_code, weighed_more}
use Rattle.forms.proofs.evaluate.weighted.Goals as goal

pub loop-t-init : goal.loop-t-init
unfolding fold
loop-t-init g c = (some_code g.S.Codes.Scale.model, up_zero g.S.Codes.Scale.model)

pub loop-t-preserved : goal.loop-t-preserved
loop-t-preserved g c =
    let M = g.S.Codes.Scale.model in
    let product = c.product.ensures in
    let sum = c.sum-sum.ensures in (
      sum_code M _ _ _ c.loop-t.invariant.0 (product_code M _ _ _ product) sum,
      weighed_more M (g.S.Strip.code c.args.row.now) c.args.values.now c.loop-t.t _ _ _ _ c.loop-t.invariant.0 c.loop-t.invariant.1 c.ask.ensures product sum,
    )
