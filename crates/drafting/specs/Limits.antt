-- What it means for patches that a draft is refused for its cells.
use Rattle.std.specs.Prelude.{ℕ, ◌<◌, List, length}
use Rattle.diagram.specs.Canonical.{Local}
use Rattle.diagram.specs.Diagram.{Assignment}
use Rattle.diagram.specs.Patches.{PatchOf, at_settings}
use Rattle.elimination.specs.Lift.{Element}
use Rattle.patch.specs.Orders.{listed}
use Rattle.patch.specs.Records.{records, cells_of}
use Rattle.patch.specs.declared.order.ScanOrder.{ScanOrder}
use Rattle.scale.specs.Model.{ScaleModel}
use Rattle.settling.specs.Backing.{Least}
use Rattle.drafting.specs.Meaning.{reading}

-- Where every diagram of a rule has more than 31 cells, so has every patch of it.
abbrev pub TooManyForPatches : Type 0
TooManyForPatches = (M : ScaleModel) (s : ScanOrder) (f : Assignment → Element M) → Local (length (listed s)) f → Least M (length (listed s)) f 33
    → (bytes : List ℕ) → PatchOf (reading M s) (at_settings (reading M s) f) bytes → 31 < cells_of (records bytes)
