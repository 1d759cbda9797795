use Rattle.std.proofs.Common.{◌≡◌, ap, ◌∙◌, ap₂}
use Rattle.elimination.specs.Arithmetic.{arithmetic}
use Rattle.elimination.specs.Rows.{added}
use Rattle.elimination.proofs.Answering.{times_answer, neg_answer, inv_answer}
use Rattle.elimination.proofs.Sums.{cleared}
use Rattle.elimination.proofs.rows.clear.Goals as goal

pub returns : goal.returns
returns g c =
    let M = g.S.Codes.Scale.model in
    let F = arithmetic M in
    let code = g.S.Strip.code in
    let v = c.args.v.now in
    let row = c.args.row.now in
    let h = c.args.h in
    let factor : c.product-factor.result ≡ F.times (code v h) (F.inv (code row h)) =
    c.product-factor.ensures ∙ times_answer M _ _ ∙ ap₂ F.times c.ask.ensures (c.inverse.ensures ∙ inv_answer M _ ∙ ap F.inv c.ask-2.ensures) in
    cleared F (code v) (code row) _ h _ (g.met.S.Strip.coded v) (g.met.S.Strip.coded row) factor
    (c.add_times.ensures ∙ ap (λ x. added F (code v) x (code row)) (c.negative.ensures ∙ neg_answer M _))
