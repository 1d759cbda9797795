use Rattle.std.proofs.Common.{◌+◌, ap, ◌∙◌, length, arith}
use Rattle.strip.specs.Row.{Row}
use Rattle.forms.specs.Sounding.{weighed_up}
use Rattle.forms.proofs.Filling.{row_read}
use Rattle.forms.proofs.Sounding.{sounds_as, weighed_part}
use Rattle.forms.proofs.evaluate.code_at.Goals as goal

pub returns-clause-sounds : goal.returns-clause-sounds
returns-clause-sounds g c =
    let code = g.S.Strip.code in
    let M = g.S.Codes.Scale.model in
    let form = c.args.form.now in
    let xs = form.strips.now in
    let n = length form.inputs.now in
    let values = c.cell_values-values.result in
    let outlet = c.index-strips-0 in
    λ order ech. sounds_as M code xs 0 n form.inputs.now c.args.setting order ech values _ c.cell_values-values.ensures c.weighted.ensures.code (
    c.weighted.ensures.value ∙ weighed_part M (code outlet.result) values (n + 1) (omega arith)
    ∙ ap (λ (r : Row). weighed_up M r (n + 1) values) (row_read code xs 0 outlet.result (omega (arith, form.wide)) outlet.is))
