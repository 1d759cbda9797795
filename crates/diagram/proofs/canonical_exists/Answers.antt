use Rattle.diagram.proofs.Exists as ex
use Rattle.diagram.proofs.canonical_exists.Goals as goal

pub returns : goal.returns
returns g c = λ F n f local. (ex.made F n f local, ex.made_canonical F n f local, ex.made_rule F n f local)
