use Rattle.std.proofs.Common.{◌∙◌, arith}
use native.Mathlib.Decide.{ℕ_discrete}
use Rattle.elimination.proofs.Tables.{set_row}
use Rattle.elimination.proofs.reduced_form.wipe.Goals as goal

pub loop-row-preserved : goal.loop-row-preserved
loop-row-preserved g c k l =
    let set = set_row g.S.Strip.code c.loop-row.table c.loop-row.row-index c.blank.result (omega arith) in
    elim (ℕ_discrete k c.loop-row.row-index) [
      | yes e ↦ rw e (set.here ∙ c.blank.ensures)
      | no n ↦ set.rest k n ∙ c.loop-row.invariant k (omega arith)
    ]
