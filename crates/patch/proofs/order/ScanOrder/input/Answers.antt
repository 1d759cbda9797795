use Rattle.std.proofs.Common.{sym, arith}
use Rattle.std.proofs.lemmas.List.{get_or_past}
use Rattle.patch.proofs.Orders.{listed_at, listed_length}
use Rattle.patch.proofs.order.ScanOrder.input.Goals as goal

pub returns-then-k-self : goal.returns-then-k-self
returns-then-k-self c = sym (listed_at c.args.self.now c.args.k c.if-k-self.true)

pub returns-else-k-self : goal.returns-else-k-self
returns-else-k-self c = sym (get_or_past _ c.args.k 0 (omega (arith, listed_length c.args.self.now)))
