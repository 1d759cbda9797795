use Rattle.std.proofs.Common.{rules, arith}
use Rattle.drafting.proofs.Planning.{passed, placed, placed_order, room}
use Rattle.drafting.proofs.plan.Plan.place_position.Goals.{then-position-p, else-position-p}
use Rattle.drafting.proofs.plan.Plan.place_position.Goals as goal

pub with_cell-self-requires-clause-few : goal.with_cell-self-requires-clause-few
with_cell-self-requires-clause-few c = omega (arith, room _ _ _ _ _ _ _ _ c.loop-c.invariant c.loop-c-test.true c.if-position-p.true, c.requires.few)

pub with_cell-self-requires-clause-order : goal.with_cell-self-requires-clause-order
with_cell-self-requires-clause-order c = placed_order _ _ _ _ _ _ _ _ c.loop-c.invariant c.loop-c-test.true c.requires.few (search rules) c.if-position-p.true c.requires.early

pub loop-c-preserved : goal.loop-c-preserved
loop-c-preserved c = elim c.if-position-p.branch [
  | then-position-p w ↦ rw (w.self-is, w.with_cell-self.ensures.cells, w.with_cell-self.ensures.pos) (
      placed _ _ _ _ _ _ _ _ c.loop-c.invariant c.loop-c-test.true c.requires.few (search rules) (search rules) w.if-position-p.true)
  | else-position-p w ↦ rw w.self-is (passed _ _ _ _ _ _ _ _ c.loop-c.invariant w.if-position-p.false)
]
