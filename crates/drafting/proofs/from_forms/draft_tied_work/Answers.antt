use Rattle.std.proofs.Common.{ℕ, ◌<◌, [], ◌++◌, length, map, subst, arith}
use Rattle.patch.specs.Faults.{position}
use Rattle.patch.specs.Orders.{listed}
use Rattle.drafting.specs.Plan.{PlacedBy}
use Rattle.drafting.proofs.Positions.{first_at}
use Rattle.drafting.proofs.Tied.{tied_means}
use Rattle.drafting.proofs.from_forms.draft_tied_work.Goals as goal

pub returns-clause-means : goal.returns-clause-means
returns-clause-means g c =
    let M = g.S.Codes.Scale.model in
    let code = g.S.Strip.code in
    let s = c.args.order.now in
    let form = c.args.form.now in
    let order = listed s in
    let ps = map (position order) (form.inputs.now ++ []) in
    let plan = c.plan_forms-plan.result in
    let d : PlacedBy ps (length form.inputs.now) (length order) plan.places plan.place =
    subst (λ (k : ℕ). PlacedBy ps k (length order) plan.places plan.place) (omega arith) c.plan_forms-plan.ensures in
    let short : plan.places.cells < g.S.Strip.len = omega (arith, d.few, form.few, g.met.S.Strip.long) in
    λ known fP.
    tied_means M code s ps plan form c.part-part.result c.part-part.ensures d g.S.Strip.len short (first_at order form.inputs.now []) c.args.input c.args.on known _ _ c.clear_work.ensures.blank
    c.copy_cells.ensures.dif c.copy_cells.ensures.off fP _ (c.moved_row-out.ensures.row (omega (arith, c.part-part.ensures.steady)))
