use Rattle.std.proofs.Common.{◌≡◌, ℕ, ◌<◌}
use Rattle.strip.specs.Row.{zeros}
use Rattle.elimination.specs.Rows.{rows_in}
use Rattle.elimination.proofs.reduced_form.wipe.Given as goal

abbrev pub invariant-loop-row : goal.invariant-loop-row
invariant-loop-row g l = (h : ℕ) → h < l.row-index → rows_in g.S.Strip.code l.table h ≡ zeros
