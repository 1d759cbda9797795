use Rattle.std.proofs.Common.{get_or, sym, ◌∙◌, arith}
use native.Mathlib.Decide.{ℕ_discrete}
use Rattle.elimination.specs.Arithmetic.{arithmetic}
use Rattle.elimination.specs.Rows.{rows_in, Cleared}
use Rattle.elimination.proofs.Tables.{row_at, set_row}
use Rattle.elimination.proofs.Tidying.{swept_above}
use Rattle.elimination.proofs.reduced_form.clear_column.Goals as goal

pub loop-v-preserved : goal.loop-v-preserved
loop-v-preserved g c =
    let s = g.S.Strip in
    let F = arithmetic g.S.Codes.Scale.model in
    let h = c.args.h in
    let n = c.loop-v.v-index in
    let xs = c.split_at_mut-above.result.0.now in
    let ys = c.loop-v.above in
    let old = sym (c.loop-v.invariant.todo n (omega arith)) ∙ row_at s.code ys n c.v-item.result (omega arith) in
    let set = set_row s.code ys n c.clear.new.v (omega arith) in
    let row = get_or c.split_at_mut-above.result.1.now 0 c.index-rest-0.result in
    let step : Cleared F (rows_in s.code xs n) (s.code row) h c.clear.result (s.code c.clear.new.v) = rw old c.clear.ensures in
    record {
      done = λ k l. elim (ℕ_discrete k n) [
        | yes e ↦ (c.clear.result, rw (e, set.here) step)
        | no m ↦ rw (set.rest k m) (c.loop-v.invariant.done k (omega arith))
      ];
      todo = λ k l. set.rest k (omega arith) ∙ c.loop-v.invariant.todo k (omega arith);
    }

pub returns : goal.returns
returns g c =
    let s = g.S.Strip in
    let h = c.args.h in
    let xs = c.split_at_mut-above.result.0.now in
    let rest = c.split_at_mut-above.result.1.now in
    let long = c.split_at_mut-above.ensures.front_len in
    let head = row_at s.code rest 0 c.index-rest-0.result (omega arith) in
    rw c.split_at_mut-above.ensures.value
    (swept_above (arithmetic g.S.Codes.Scale.model) s.code xs c.loop-v.above rest h long (c.loop-v.auto.above ∙ long) (λ k l. rw head (c.loop-v.invariant.done k (omega arith))))
