use Rattle.std.proofs.Common.{◌≡◌}
use Rattle.patch.specs.Records.{records}
use Rattle.patch.specs.Windows.{seen, records_left}
use Rattle.patch.proofs.Lined.{Lining}
use Rattle.patch.proofs.lines.PatchText.put.Given as goal

abbrev pub invariant-loop-record : goal.invariant-loop-record
invariant-loop-record l =
    (l.output.out.ghost_name ≡ l.initial.output.out.ghost_name)
    × Lining l.initial.output.out.now (records (seen l.self)) l.output.out.now l.output.at l.cells (records_left l.record-iterator)
