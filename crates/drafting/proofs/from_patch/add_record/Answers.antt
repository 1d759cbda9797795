use Rattle.std.proofs.Common.{arith}
use Rattle.drafting.specs.Arcs.{spots}
use Rattle.drafting.proofs.Entering.{entered_outlet, entered_on, entered_off}
use Rattle.drafting.proofs.Moving.{spot_low}
use Rattle.drafting.proofs.from_patch.add_record.Goals as goal

pub returns-in-Off-clause-entered : goal.returns-in-Off-clause-entered
returns-in-Off-clause-entered g c =
    let plan = c.args.plan.now in
    rw c.in-Off.is (
    entered_off g.S.Codes.Scale.model g.S.Strip.code g.met.S.Strip.coded g.S.Strip.len (spots plan) plan.places.cells plan.places.few c.in-Off.from c.in-Off.to c.in-Off.c
    (omega (arith, spot_low plan c.in-Off.to, c.requires.sound.within)) (rw c.in-Off.is at c.requires.coded) _ _ _ _ c.negative.result c.negative.ensures
    c.add_arc.ensures.row c.add_arc.ensures.outside c.add_arc-in-Off.ensures.row c.add_arc-in-Off.ensures.outside)

pub returns-in-On-clause-entered : goal.returns-in-On-clause-entered
returns-in-On-clause-entered g c =
    let plan = c.args.plan.now in
    rw c.in-On.is (
    entered_on g.S.Codes.Scale.model g.S.Strip.code g.met.S.Strip.coded g.S.Strip.len (spots plan) plan.places.cells plan.places.few c.in-On.from c.in-On.to c.in-On.c
    (omega (arith, spot_low plan c.in-On.to, c.requires.sound.within)) (rw c.in-On.is at c.requires.coded) _ _ _ c.add_arc-in-On.ensures.row c.add_arc-in-On.ensures.outside)

pub returns-in-Outlet-clause-entered : goal.returns-in-Outlet-clause-entered
returns-in-Outlet-clause-entered g c =
    let plan = c.args.plan.now in
    rw c.in-Outlet.is (
    entered_outlet g.S.Codes.Scale.model g.S.Strip.code g.met.S.Strip.coded g.S.Strip.len (spots plan) c.in-Outlet.to c.in-Outlet.c c.args.work.now _ _
    (rw c.cell_place.ensures.is at c.add_at.ensures) (omega (arith, spot_low plan c.in-Outlet.to, c.requires.sound.within)) (rw c.in-Outlet.is at c.requires.coded) (g.met.S.Strip.coded c.args.out.now))
