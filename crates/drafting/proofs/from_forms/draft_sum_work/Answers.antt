use Rattle.std.proofs.Common.{◌<◌, ◌++◌, map, refl, ap, ◌∙◌, ap₂, arith}
use Rattle.elimination.specs.Arithmetic.{arithmetic}
use Rattle.elimination.specs.Lift.{scalars, up}
use Rattle.elimination.proofs.Lifting.{up_added}
use Rattle.elimination.proofs.Sums.{at}
use Rattle.patch.specs.Faults.{position}
use Rattle.patch.specs.Orders.{listed}
use Rattle.drafting.proofs.Bounding.{ends_added}
use Rattle.drafting.proofs.Laying.{sum_means}
use Rattle.drafting.proofs.Positions.{first_at, second_at}
use Rattle.drafting.proofs.from_forms.draft_sum_work.Goals as goal

pub returns-clause-means : goal.returns-clause-means
returns-clause-means g c =
    let M = g.S.Codes.Scale.model in
    let F = scalars M in
    let code = g.S.Strip.code in
    let s = c.args.order.now in
    let a = c.args.a.now in
    let b = c.args.b.now in
    let x = a.inputs.now in
    let y = b.inputs.now in
    let order = listed s in
    let ps = map (position order) (x ++ y) in
    let plan = c.plan_forms-plan.result in
    let d = c.plan_forms-plan.ensures in
    let short : plan.places.cells < g.S.Strip.len = omega (arith, d.few, a.few, b.few, g.met.S.Strip.long) in
    λ fP fQ.
    sum_means M code s ps _ plan d g.S.Strip.len a b _ _ c.part-of_a.ensures c.part-of_b.ensures refl short (first_at order x y) (second_at order x y) _ _ _ c.clear_work.ensures.blank
    c.copy_cells.ensures.dif c.copy_cells.ensures.off c.copy_cells-2.ensures.dif c.copy_cells-2.ensures.off fP fQ _ c.args.c (λ u.
    ap (up M) (at c.add_times.ensures u) ∙ up_added M (code c.moved_row-out.result) (code c.moved_row-other.result) c.args.c u (g.met.S.Strip.coded _ u)
    ∙ ap₂ (λ v w. F.plus v (F.times (up M c.args.c) w)) (c.moved_row-out.ensures.row (omega (arith, c.part-of_a.ensures.steady)) u)
    (c.moved_row-other.ensures.row (omega (arith, c.part-of_b.ensures.steady)) u))

pub returns-clause-sound : goal.returns-clause-sound
returns-clause-sound g c = record {
  within = omega (arith, c.plan_forms-plan.ensures.few, c.args.a.now.few, c.args.b.now.few, g.met.S.Strip.long);
  bounded = rw c.part-of_b.ensures.steady at c.copy_cells-2.ensures.bounded;
  outlet = ends_added (arithmetic g.S.Codes.Scale.model) _ _ _ _ _ c.add_times.ensures (rw c.part-of_a.ensures.steady at c.moved_row-out.ensures.ends)
      (rw c.part-of_b.ensures.steady at c.moved_row-other.ensures.ends);
}
