use Rattle.std.proofs.Common.{◌≡◌, ◌∙◌, arith}
use Rattle.elimination.specs.Rows.{Rows}
use Rattle.elimination.proofs.Grids.{rows_from, stored, stored_outside}
use Rattle.drafting.proofs.rows.add_in.Goals as goal

pub returns : goal.returns
returns g c =
    let s = g.S.Strip in
    let w = c.args.work.now in
    let one = stored s.code w c.store.new.rows c.args.base c.args.h _ c.store.ensures in
    let read : s.code c.row-v.result ≡ Rows s.code w c.args.base c.args.h = c.row-v.ensures ∙ rows_from s.code w c.args.base c.args.h in
    record {
      row = record { row = rw (one.here, ← read) c.add_at.ensures; rest = λ k n. one.other c.args.base k (omega arith) };
      outside = λ n l. stored_outside s.code one n l;
    }
