use Rattle.std.proofs.Common.{ℕ, ◌<◌, [], length, take, ap, ◌∙◌, subst, arith}
use Rattle.std.proofs.lemmas.List.{get_or-take}
use Rattle.patch.specs.Faults.{Patch}
use Rattle.patch.specs.Orders.{listed}
use Rattle.patch.specs.Records.{records, declared, cells_of}
use Rattle.patch.specs.Windows.{seen}
use Rattle.patch.proofs.Admitting.{admitted_patch}
use Rattle.drafting.specs.Arcs.{Positions}
use Rattle.drafting.specs.Drafts.{draft_of}
use Rattle.drafting.specs.Plan.{PlacedBy}
use Rattle.drafting.proofs.Patching.{drafts_patch}
use Rattle.drafting.proofs.Planning.{first_placed}
use Rattle.drafting.proofs.from_patch.draft_patch_work.Goals as goal

pub returns-clause-drafts : goal.returns-clause-drafts
returns-clause-drafts g c =
    let M = g.S.Codes.Scale.model in
    let patch = c.args.patch.now in
    let plan = c.place_cells-plan.result in
    let counted = c.cell_positions-count.ensures in
    let k : ℕ = c.cell_positions-count.result in
    let all = c.cell_positions-count.new.positions in
    let few : k < 128 = omega (arith, counted.within, c.requires.places, g.met.S.Strip.short) in
    let is_patch : Patch (listed patch.setup.order) M.q (seen patch) =
    subst (λ (q : ℕ). Patch (listed patch.setup.order) q (seen patch)) c.requires.codes (admitted_patch (listed patch.setup.order) patch.setup.places patch.setup.codes (seen patch) patch.admitted) in
    let d = first_placed all k _ (length (listed patch.setup.order)) _ _ _ (omega (arith, c.cell_positions-count.array_long)) (c.count.ensures ∙ ap (λ s. length (listed s)) c.order.ensures) c.place_cells-plan.ensures in
    let placed : PlacedBy (take k all) (cells_of (records (seen patch))) (length (listed patch.setup.order)) plan.places plan.place =
    subst (λ (i : ℕ). PlacedBy (take k all) i (length (listed patch.setup.order)) plan.places plan.place) counted.count d in
    let read : Positions (listed patch.setup.order) (declared [] (records (seen patch))) (take k all) = λ i l. get_or-take k all i 0 (omega (arith, counted.count)) ∙ counted.positions i l in
    drafts_patch M patch.setup.order (seen patch) is_patch g.S.Strip.code c.add_records-out.new.work (draft_of plan c.add_records-out.result) (take k all)
    plan.place read placed (omega (arith, counted.count)) c.add_records-out.ensures.summed
