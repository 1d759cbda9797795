use Rattle.std.proofs.Common.{sym}
use Rattle.patch.specs.Windows.{seen}
use Rattle.patch.proofs.Checked.{records_length}
use Rattle.patch.proofs.window.Patch.count.Goals as goal

pub returns : goal.returns
returns c = sym (records_length (seen c.args.self.now))
