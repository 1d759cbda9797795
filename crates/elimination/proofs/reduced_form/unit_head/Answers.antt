use Rattle.std.proofs.Common.{◌≡◌, ℕ, sym, ap, ◌∙◌}
use mathlib.Core.Path.{fun_ext}
use Rattle.strip.specs.Row.{Row}
use Rattle.elimination.specs.Arithmetic.{arithmetic}
use Rattle.elimination.specs.Rows.{added, scaled, rows_in}
use Rattle.elimination.proofs.Answering.{inv_answer}
use Rattle.elimination.proofs.Tables.{row_read, set_row}
use Rattle.elimination.proofs.reduced_form.unit_head.Goals as goal

pub returns : goal.returns
returns g c =
    let s = g.S.Strip in
    let M = g.S.Codes.Scale.model in
    let F = arithmetic M in
    let table = c.args.table.now in
    let h = c.args.h in
    let R : ℕ → Row = rows_in s.code table in
    let row : Row = s.code c.index-table-h.result in
    let read : R h ≡ row = row_read s.code table h _ c.requires.room c.index-table-h.is in
    let factor : c.inverse.result ≡ F.inv (R h h) = c.inverse.ensures ∙ inv_answer M _ ∙ ap F.inv (c.ask.ensures ∙ sym (ap (λ (f : Row). f h) read)) in
    let sum : s.code c.add_times.new.v ≡ added F (s.code c.blank-unit.result) c.inverse.result row = c.add_times.ensures in
    let unit : s.code c.add_times.new.v ≡ scaled F (F.inv (R h h)) (R h) =
    sum ∙ ap (λ (f : Row). added F f c.inverse.result row) c.blank-unit.ensures ∙ fun_ext (λ p. F.plus_zero _ (F.times_code _ _))
    ∙ ap (λ x. scaled F x row) factor ∙ ap (scaled F (F.inv (R h h))) (sym read) in
    rw (← unit) (set_row s.code table h _ c.requires.room)
