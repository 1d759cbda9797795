use Rattle.std.proofs.Common.{◌≡◌, ℕ, ◌<◌, length, get_or}
use Rattle.elimination.specs.Rows.{Rows}
use Rattle.forms.specs.Sounding.{Valued}
use Rattle.forms.proofs.evaluate.cell_values.Given as goal

abbrev pub invariant-loop-k : goal.invariant-loop-k
invariant-loop-k g l =
    Valued g.S.Codes.Scale.model (Rows g.S.Strip.code l.form.strips.now 0) (length l.yielded) l.form.inputs.now l.setting l.values
    × ((j : ℕ) → length l.yielded < j → get_or l.values j 0 ≡ 0)
    × (length l.values ≡ 32)
