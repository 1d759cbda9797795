use Rattle.std.proofs.Common.{◌%◌, ◌^◌, ◌<◌, ◌≤◌, eqb, sym, ap, ◌∙◌, arith, pow_mono}
use native.Mathlib.Nat.{div-eq_of_lt}
use Rattle.std.proofs.lemmas.Bool.{le-ltb}
use Rattle.forms.proofs.evaluate.reads_one.Goals as goal

pub returns-else-input-lt64 : goal.returns-else-input-lt64
returns-else-input-lt64 c =
    let low : 2 ^ 64 ≤ 2 ^ c.args.input = pow_mono c.if-input-lt64.false in
    let small : c.args.setting < 2 ^ c.args.input = omega (arith, low, c.ranges.setting.fits) in
    le-ltb c.args.input 64 c.if-input-lt64.false ∙ sym (ap (λ z. eqb (z % 2) 1) (div-eq_of_lt small))
