use Rattle.patch.proofs.Admitting.{shows_readable}
use Rattle.patch.proofs.window.Patch.records.Goals as goal

pub invariant_of-result : goal.invariant_of-result
invariant_of-result c = record { readable = shows_readable c.args.self.now }
