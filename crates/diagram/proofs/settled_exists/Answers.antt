use Rattle.diagram.proofs.OnlyOne as one
use Rattle.diagram.proofs.settled_exists.Goals as goal

pub returns : goal.returns
returns c = λ R. one.exists_if_patch R
