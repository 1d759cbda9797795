use Rattle.elimination.proofs.Tables.{set_row}
use Rattle.elimination.proofs.rows.store.Goals as goal

pub returns : goal.returns
returns g c = set_row g.S.Strip.code c.args.rows.now c.args.h c.args.v c.requires.room
