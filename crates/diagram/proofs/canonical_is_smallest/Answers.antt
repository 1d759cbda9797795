use Rattle.diagram.proofs.Smallest as small
use Rattle.diagram.proofs.canonical_is_smallest.Goals as goal

pub returns : goal.returns
returns g c = λ F n f D E. small.smallest F n f D E
