use Rattle.patch.proofs.Filling.{Filled}
use Rattle.patch.proofs.order.ScanOrder.arrange.Given as goal

abbrev pub invariant-loop-k : goal.invariant-loop-k
invariant-loop-k l = Filled l.list l.k l.seen l.positions
