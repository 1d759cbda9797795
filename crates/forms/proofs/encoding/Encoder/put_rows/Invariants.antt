use Rattle.std.proofs.Common.{◌+◌, ◌*◌, ◌≤◌}
use Rattle.elimination.specs.Rows.{Rows}
use Rattle.forms.specs.Continued.{Continued}
use Rattle.forms.specs.Forms.{row_bytes}
use Rattle.forms.proofs.encoding.Encoder.put_rows.Given as goal

abbrev pub invariant-loop-k : goal.invariant-loop-k
invariant-loop-k g l = (l.self.at ≤ 124 + 124 * l.k) × Continued l.initial.self (row_bytes (Rows g.S.Strip.code l.form.strips.now 0) l.k) l.self
