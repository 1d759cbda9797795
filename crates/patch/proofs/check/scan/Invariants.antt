use Rattle.std.proofs.Common.{◌≡◌}
use Rattle.std.specs.Iterator.Adapters.{enumerate_source, enumerate_count}
use Rattle.std.specs.Slice.Iter.{chunks_exact_rest, chunks_exact_size}
use Rattle.patch.specs.Orders.{listed}
use Rattle.patch.proofs.Scanning.{Scanned}
use Rattle.patch.proofs.check.scan.Given as goal

abbrev pub invariant-loop-k : goal.invariant-loop-k
invariant-loop-k l =
    (chunks_exact_size (enumerate_source l.k-iterator) ≡ 4)
    × Scanned (listed l.setup.order) l.setup.places l.setup.codes l.bytes l.cells (enumerate_count l.k-iterator) (chunks_exact_rest (enumerate_source l.k-iterator))
