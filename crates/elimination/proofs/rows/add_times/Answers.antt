use Rattle.elimination.proofs.Answering.{add_answer}
use Rattle.elimination.proofs.rows.add_times.Goals as goal

pub returns : goal.returns
returns g c = add_answer g.S.Codes.Scale.model _ c.args.c _ _ (g.met.S.Strip.coded c.args.v.now) (g.met.S.Strip.coded c.args.t.now) c.add.ensures
