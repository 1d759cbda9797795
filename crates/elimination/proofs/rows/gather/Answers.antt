use Rattle.std.proofs.Common.{rules, ◌≡◌, ◌+◌, ◌-◌, length, refl, sym, ◌∙◌, arith}
use Rattle.elimination.specs.Rows.{rows_in}
use Rattle.elimination.proofs.Gathering.{none_added, row_added, row_skipped, part_row}
use Rattle.elimination.proofs.rows.gather.Goals as goal
use Rattle.elimination.proofs.rows.gather.Goals.{then-c-ne0, else-c-ne0}

pub loop-i-init : goal.loop-i-init
loop-i-init g c = none_added g.S.Codes.Scale.model (g.S.Strip.code c.args.r.now) (rows_in g.S.Strip.code c.args.rows.now) c.args.from (g.S.Strip.code c.args.sum.now)

pub loop-i-preserved : goal.loop-i-preserved
loop-i-preserved g c =
    let s = g.S.Strip in
    let M = g.S.Codes.Scale.model in
    let rows = c.args.rows.now in
    let from = c.args.from in
    let i = c.loop-i.i in
    let part = c.in-Some.ensures.lookup.0 in
    let more = row_added M (s.code c.args.r.now) (rows_in s.code rows) from i (from + i) refl (s.code c.args.sum.now) (s.code c.loop-i.sum) c.loop-i.invariant in
    elim c.if-c-ne0.branch [
      | then-c-ne0 w ↦ rw w.sum-is (more _ _ c.ask-c.result c.ask-c.ensures (part_row s.code rows c.in-Some.rest.now from i _ part.2 part.3 c.loop-i-test.true (search rules))
          (g.met.S.Strip.coded c.loop-i.sum) w.add_times.ensures)
      | else-c-ne0 w ↦ rw w.sum-is (row_skipped M (s.code c.args.r.now) (rows_in s.code rows) from i (from + i) refl (s.code c.args.sum.now) (s.code c.loop-i.sum) c.loop-i.invariant
          (sym c.ask-c.ensures ∙ w.if-c-ne0.false))
    ]

pub returns-after-loop-i : goal.returns-after-loop-i
returns-after-loop-i g c =
    let part = c.in-Some.ensures.lookup.0 in
    let all : c.loop-i.i ≡ length c.args.rows.now - c.args.from = omega (arith, part.3) in
    rw all at c.loop-i.invariant

pub returns-in_default : goal.returns-in_default
returns-in_default g c =
    let none : length c.args.rows.now - c.args.from ≡ 0 = omega (arith, c.in_default.ensures.lookup) in
    rw none (none_added g.S.Codes.Scale.model (g.S.Strip.code c.args.r.now) (rows_in g.S.Strip.code c.args.rows.now) c.args.from (g.S.Strip.code c.args.sum.now))
