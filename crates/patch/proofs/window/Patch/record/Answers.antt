use Rattle.std.proofs.Common.{sym, ap, ◌∙◌, arith}
use Rattle.std.proofs.lemmas.List.{get_or_past}
use Rattle.patch.specs.Judging.{meant}
use Rattle.patch.specs.Records.{records, filler}
use Rattle.patch.specs.Windows.{seen}
use Rattle.patch.proofs.Admitting.{shows_readable}
use Rattle.patch.proofs.Checked.{records_length}
use Rattle.patch.proofs.Scanning.{read_at}
use Rattle.patch.proofs.window.Patch.record.Goals as goal

pub returns-then-k-self : goal.returns-then-k-self
returns-then-k-self c = let w = c.args.self.now in ap meant c.read_record.ensures ∙ read_at (seen w) c.args.k c.if-k-self.true (shows_readable w)

pub returns-else-k-self : goal.returns-else-k-self
returns-else-k-self c =
    let w = c.args.self.now in sym (get_or_past (records (seen w)) c.args.k filler (omega (arith, records_length (seen w), c.if-k-self.false)))
