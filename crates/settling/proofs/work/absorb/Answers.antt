use Rattle.std.proofs.Common.{◌+◌, ◌-◌, ◌≤◌, length, arith}
use Rattle.elimination.specs.Lift.{vec}
use Rattle.elimination.proofs.Parts.{part_held, placed, echelon_in, echelon_out, inside_in, inside_out, absorbed_out}
use Rattle.settling.proofs.work.absorb.Goals as goal

pub absorb-requires-clause-shape : goal.absorb-requires-clause-shape
absorb-requires-clause-shape g c = echelon_in (part_held g.S.Strip.code c.args.work.now c.args.base _ c.args.size (omega arith) (omega arith)) c.requires.shape

pub absorb-requires-clause-inside : goal.absorb-requires-clause-inside
absorb-requires-clause-inside g c = inside_in (part_held g.S.Strip.code c.args.work.now c.args.base _ c.args.size (omega arith) (omega arith)) c.requires.inside

pub returns : goal.returns
returns g c =
    let s = g.S.Strip in
    let M = g.S.Codes.Scale.model in
    let w = c.args.work.now in
    let size = c.args.size in
    let room : c.args.base + size ≤ length w = omega arith in
    let n = c.args.base + size - c.args.base in
    let before = part_held s.code w c.args.base n size (omega arith) room in
    let after = placed s.code w c.args.base n size (omega arith) room c.absorb.new.table c.absorb.auto.table in
    record {
      shape = echelon_out after.held c.absorb.ensures.shape;
      inside = inside_out after.held c.absorb.ensures.inside;
      outside = after.outside;
      absorbed = (absorbed_out before after.held M (vec M (s.code c.args.v)) (vec M (s.code c.absorb.result)) c.absorb.ensures.absorbed);
    }
