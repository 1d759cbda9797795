use Rattle.std.proofs.Common.{refl, ◌∙◌, arith}
use Rattle.patch.specs.Orders.{listed}
use Rattle.patch.proofs.Scanning.{scan_starts, scan_ends, scan_stops, scan_past, scan_cell}
use Rattle.patch.proofs.check.scan.Goals as goal

pub loop-k-init : goal.loop-k-init
loop-k-init c =
    let setup = c.args.setup.now in
    rw (c.into_iter-k-iterator.ensures.into_iter_gives, c.enumerate-k-items.ensures.source, c.enumerate-k-items.ensures.count, c.chunks_exact.ensures.rest, c.chunks_exact.ensures.size) (
      refl,
      scan_starts (listed setup.order) setup.places setup.codes c.args.bytes.now c.none-cells.result c.none-cells.ensures.0 c.none-cells.ensures.1,
    )

pub declare-requires : goal.declare-requires
declare-requires c = let S = c.loop-k.invariant.1 in omega (arith, S.few, S.left, c.in-Some.ensures.steps.3)

pub loop-k-preserved-in-Cell : goal.loop-k-preserved-in-Cell
loop-k-preserved-in-Cell c =
    let step = c.in-Some.ensures.steps in
    let long = step.0.1.1 ∙ c.loop-k.invariant.0 in
    let next = scan_cell c.loop-k.invariant.1 c.in-Some.record.now _ long step.0.1.0 c.check_record.result (rw step.1 at c.check_record.ensures)
    c.in-Ok.record c.in-Cell.input c.declare.new.self c.in-Ok.is c.in-Cell.is c.declare.ensures.counts c.declare.ensures.keeps in
    (step.0.0 ∙ c.loop-k.invariant.0, rw step.2 next)

pub loop-k-preserved : goal.loop-k-preserved
loop-k-preserved c =
    let step = c.in-Some.ensures.steps in
    let long = step.0.1.1 ∙ c.loop-k.invariant.0 in
    let next = scan_past c.loop-k.invariant.1 c.in-Some.record.now _ long step.0.1.0 c.check_record.result (rw step.1 at c.check_record.ensures) c.in-Ok.record c.in-Ok.is c.in_default.not-Cell in
    (step.0.0 ∙ c.loop-k.invariant.0, rw step.2 next)

pub returns-in-Err : goal.returns-in-Err
returns-in-Err c =
    let step = c.in-Some.ensures.steps in
    let long = step.0.1.1 ∙ c.loop-k.invariant.0 in
    scan_stops c.loop-k.invariant.1 c.in-Some.record.now _ long step.0.1.0 c.check_record.result (rw step.1 at c.check_record.ensures) c.in-Err.refusal c.in-Err.is

pub returns-in-None : goal.returns-in-None
returns-in-None c = scan_ends c.loop-k.invariant.1 (omega (arith, c.in-None.ensures.steps.0.1.0, c.loop-k.invariant.0))
