use Rattle.std.proofs.Common.{arith}
use Rattle.settling.proofs.canonicalise.back_all.Goals as goal

pub loop-e-preserved : goal.loop-e-preserved
loop-e-preserved g c =
    let old = c.loop-e.invariant.stepped in
    let new = rw c.run_before-run.ensures.ends at c.in_ok-back_block.ensures in
    record {
      ends = omega (arith, c.run_before-run.result.some, c.run_before-run.ensures.ends, c.loop-e.invariant.ends);
      edge = c.run_before-run.ensures.span.earlier;
      stepped = record {
        more = omega (arith, old.more, new.more);
        few = new.few;
        cellular = new.cellular;
        recedes = λ off dif out out' f derives backs. new.recedes off dif out out' f derives (old.recedes off dif out out' f derives backs);
      };
    }

pub returns-in_err-back_block : goal.returns-in_err-back_block
returns-in_err-back_block g c = rw c.from_residual.ensures (
    λ off dif out out' f derives backs. (rw c.run_before-run.ensures.ends at c.in_err-back_block.ensures) off dif out out' f derives (c.loop-e.invariant.stepped.recedes off dif out out' f derives backs))
