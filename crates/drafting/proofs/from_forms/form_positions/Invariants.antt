use Rattle.std.proofs.Common.{◌≡◌, ℕ, ◌<◌, ◌≤◌, length, slice_index}
use Rattle.patch.specs.Faults.{position}
use Rattle.patch.specs.Orders.{listed}
use Rattle.drafting.proofs.from_forms.form_positions.Given as goal

abbrev pub invariant-loop-j : goal.invariant-loop-j
invariant-loop-j l = record {
  listed : (i : ℕ) → i < l.j → slice_index l.positions i ≡ position (listed l.order) (slice_index l.inputs i);
  kept : (i : ℕ) → length l.inputs ≤ i → slice_index l.positions i ≡ slice_index l.initial.positions i;
}
