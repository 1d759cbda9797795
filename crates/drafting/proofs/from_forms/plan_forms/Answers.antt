use Rattle.std.proofs.Common.{ℕ, ◌+◌, List, ◌++◌, length, subst, arith, length-append}
use Rattle.patch.specs.Orders.{listed}
use Rattle.drafting.specs.Plan.{PlacedBy}
use Rattle.drafting.proofs.Planning.{first_placed}
use Rattle.drafting.proofs.Positions.{listed_both}
use Rattle.drafting.proofs.from_forms.plan_forms.Goals as goal

pub returns : goal.returns
returns c =
    let first = c.args.first.now in
    let second = c.args.second.now in
    let ps = c.form_positions.new.positions in
    let qs = c.form_positions-2.new.positions in
    let k : ℕ = length first + length second in
    let n : ℕ = length (listed c.args.order.now) in
    let plan = c.place_cells.result in
    subst (λ (l : List ℕ). PlacedBy l k n plan.places plan.place)
    (listed_both (listed c.args.order.now) first second ps qs (omega (arith, c.split_at_mut-of_first.ensures.front_len)) (omega (arith, c.split_at_mut-of_first.ensures.back_len)) c.form_positions.ensures.listed c.form_positions-2.ensures.listed) (
    first_placed (ps ++ qs) k _ n _ _ _ (omega (arith, length-append ps qs, c.split_at_mut-of_first.ensures.front_len, c.split_at_mut-of_first.ensures.back_len)) c.count.ensures c.place_cells.ensures)
