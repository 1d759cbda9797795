use Rattle.std.proofs.Common.{sym, ◌∙◌, arith}
use Rattle.elimination.proofs.Parts.{placed}
use Rattle.settling.proofs.work.wipe.Goals as goal

pub returns : goal.returns
returns g c =
    let after = placed g.S.Strip.code c.args.work.now c.args.base _ c.args.size (omega arith) (omega arith) c.wipe.new.table c.wipe.auto.table in
    record {
      blank = λ h l. sym (after.held.rows h l) ∙ c.wipe.ensures.blank h (omega (arith, after.held.long));
      outside = after.outside;
    }
