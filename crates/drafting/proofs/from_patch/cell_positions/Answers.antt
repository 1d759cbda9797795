use Rattle.std.proofs.Common.{◌≡◌, ℕ, ◌<◌, length, refl, rules, arith}
use Rattle.patch.specs.Orders.{listed}
use Rattle.patch.specs.Records.{records, cells_of}
use Rattle.patch.specs.Windows.{seen}
use Rattle.patch.specs.declared.window.Patch.{Patch}
use Rattle.patch.proofs.Admitting.{admitted_cells}
use Rattle.drafting.proofs.Declaring.{listing_ends, listing_room, listing_cell}
use Rattle.drafting.proofs.from_patch.cell_positions.Goals as goal

few_cells : (patch : Patch) → 0 < patch.setup.places → cells_of (records (seen patch)) < patch.setup.places
few_cells patch some = admitted_cells (listed patch.setup.order) patch.setup.places patch.setup.codes (seen patch) some patch.admitted

pub bounds-positions-count : goal.bounds-positions-count
bounds-positions-count c =
    omega (arith, listing_room c.loop-record.invariant c.in-Some.record _ c.in-Some.ensures.steps c.in-Cell.input c.in-Cell.is, few_cells c.args.patch.now c.requires.some, c.requires.few)

pub overflow_add-count : goal.overflow_add-count
overflow_add-count c =
    omega (arith, listing_room c.loop-record.invariant c.in-Some.record _ c.in-Some.ensures.steps c.in-Cell.input c.in-Cell.is, few_cells c.args.patch.now c.requires.some, c.requires.few)

pub loop-record-preserved-in-Cell : goal.loop-record-preserved-in-Cell
loop-record-preserved-in-Cell c =
    let before = c.loop-record.invariant in
    let e = c.in-Some.record in
    let i : ℕ = c.in-Cell.input in
    let first = c.in-Some.ensures.steps in
    let long : length c.loop-record.positions ≡ 128 = search rules in
    listing_cell before e _ first i c.in-Cell.is _ (rw (c.position.ensures, c.order-order.ensures) refl) (
    omega (arith, listing_room before e _ first i c.in-Cell.is, few_cells c.args.patch.now c.requires.some, c.requires.few))

pub returns : goal.returns
returns c =
    let done = listing_ends c.loop-record.invariant c.in-None.ensures.steps.0 in record { count = done.0; within = omega (arith, done.0, few_cells c.args.patch.now c.requires.some); positions = done.1 }
