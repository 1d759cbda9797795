use Rattle.diagram.proofs.OnlyOne as one
use Rattle.diagram.proofs.only_one_settled.Goals as goal

pub returns : goal.returns
returns c = λ R. one.only_one R
