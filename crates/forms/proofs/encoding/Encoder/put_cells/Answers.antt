use Rattle.std.proofs.Common.{[], ◌++◌, sym, arith}
use Rattle.linear.specs.Sums.{fold}
use Rattle.forms.proofs.Continuing.{none_put, then_put, as_put}
use Rattle.forms.proofs.Writing.{fold_more}
use Rattle.forms.proofs.encoding.Encoder.put_cells.Goals as goal

pub loop-input-init : goal.loop-input-init
unfolding fold
loop-input-init c = (omega arith, none_put _)

pub loop-input-preserved : goal.loop-input-preserved
loop-input-preserved c = (
  omega (arith, c.put.ensures.next, c.loop-input.invariant.0),
  as_put (sym (fold_more [] ◌++◌ c.loop-input.input-index _)) (then_put c.loop-input.invariant.1 c.put.ensures.puts),
)
