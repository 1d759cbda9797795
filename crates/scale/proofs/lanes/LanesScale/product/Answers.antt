use Rattle.scale.specs.Lanes.{times}
use Rattle.scale.proofs.Tables.{table, product_entry}
use Rattle.scale.proofs.lanes.LanesScale.product.Goals as goal

pub returns-then-b-lt16 : goal.returns-then-b-lt16
unfolding table times
returns-then-b-lt16 c = product_entry c.args.a c.args.b c.if-a-lt16.true c.if-b-lt16.true
