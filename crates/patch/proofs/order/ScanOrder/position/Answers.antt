use Rattle.std.proofs.Common.{sym}
use Rattle.patch.proofs.Orders.{position_low, position_high}
use Rattle.patch.proofs.order.ScanOrder.position.Goals as goal

pub returns-then-i-self : goal.returns-then-i-self
returns-then-i-self c = sym (position_low c.args.self.now c.args.i c.if-i-self.true)

pub returns-else-i-self : goal.returns-else-i-self
returns-else-i-self c = sym (position_high c.args.self.now c.args.i c.if-i-self.false)
