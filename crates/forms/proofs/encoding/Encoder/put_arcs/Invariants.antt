use Rattle.std.proofs.Common.{◌+◌, ◌*◌, ◌≤◌}
use Rattle.forms.specs.Continued.{Continued}
use Rattle.forms.specs.Forms.{arc_bytes}
use Rattle.forms.proofs.encoding.Encoder.put_arcs.Given as goal

abbrev pub invariant-loop-t : goal.invariant-loop-t
invariant-loop-t g l = (l.self.at ≤ l.initial.self.at + 4 * l.t) × Continued l.initial.self (arc_bytes l.mark l.from (g.S.Strip.code l.row) l.t) l.self
