use Rattle.std.proofs.Common.{arith}
use Rattle.elimination.proofs.Grids.{stored, stored_outside}
use Rattle.settling.proofs.work.store.Goals as goal

pub returns : goal.returns
returns g c =
    let s = g.S.Strip in
    let one = stored s.code c.args.work.now c.store.new.rows c.args.base c.args.h _ c.store.ensures in
    record {
      row = (record { here = one.here; rest = λ k n. one.other c.args.base k (omega arith) });
      outside = λ n l. (stored_outside s.code one n l);
    }
