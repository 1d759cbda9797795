use Rattle.std.proofs.Common.{[]}
use Rattle.patch.specs.Orders.{listed}
use Rattle.patch.specs.Records.{records, declared}
use Rattle.patch.specs.Windows.{seen, records_left}
use Rattle.drafting.proofs.Declaring.{Listing}
use Rattle.drafting.proofs.from_patch.cell_positions.Given as goal

abbrev pub invariant-loop-record : goal.invariant-loop-record
invariant-loop-record l = Listing (listed l.patch.setup.order) (declared [] (records (seen l.patch))) l.positions l.count (records_left l.record-iterator)
