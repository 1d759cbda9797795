use Rattle.std.proofs.Common.{◌≡◌, ℕ, length, refl, subst, arith}
use Rattle.drafting.specs.Plan.{Placing}
use Rattle.drafting.proofs.Planning.{started, next_position, finished}
use Rattle.drafting.proofs.plan.place_cells.Goals as goal

pub invariant_of-plan-2 : goal.invariant_of-plan-2
invariant_of-plan-2 c = record { wide = refl; bound = (started c.args.positions.now (length c.args.positions.now) c.args.n).bound }

pub loop-p-init : goal.loop-p-init
loop-p-init c = started _ _ _

pub loop-p-preserved : goal.loop-p-preserved
loop-p-preserved c = next_position _ _ _ _ _ _ _ c.place_position.ensures

pub returns : goal.returns
returns c =
    let ps = c.args.positions.now in
    let plan = c.loop-p.plan in
    let e : c.loop-p.p ≡ c.args.n = omega arith in
    finished _ _ _ _ _ _ c.requires.few (subst (λ (p : ℕ). Placing ps (length ps) c.args.n p 0 plan.places.cells plan.places.pos plan.place) e c.loop-p.invariant)
