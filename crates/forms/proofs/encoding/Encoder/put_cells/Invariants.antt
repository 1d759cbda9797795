use Rattle.std.proofs.Common.{◌≡◌, ◌+◌, ◌*◌}
use Rattle.forms.specs.Continued.{Continued}
use Rattle.forms.specs.Forms.{cell_bytes}
use Rattle.forms.proofs.encoding.Encoder.put_cells.Given as goal

abbrev pub invariant-loop-input : goal.invariant-loop-input
invariant-loop-input l = (l.self.at ≡ l.initial.self.at + 4 * l.input-index) × Continued l.initial.self (cell_bytes l.inputs l.input-index) l.self
