use Rattle.patch.proofs.Orders.{lawful}
use Rattle.patch.proofs.theorems.orders_are_lawful.Goals as goal

pub returns : goal.returns
returns c = lawful
