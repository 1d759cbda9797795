use Rattle.std.proofs.Common.{◌≡◌, ℕ, length, get_or}
use Rattle.patch.specs.Orders.{listed}
use Rattle.rack.specs.Describing.{noted_input}
use Rattle.rack.proofs.hold.Slot.describe.Given as goal

abbrev pub invariant-loop-k : goal.invariant-loop-k
invariant-loop-k g l = ((j : ℕ) → get_or l.inputs j 0 ≡ noted_input (listed l.order) l.k l.form.places.pos j) × (length l.inputs ≡ 31)
