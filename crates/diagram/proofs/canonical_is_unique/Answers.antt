use Rattle.diagram.proofs.Main as main
use Rattle.diagram.proofs.canonical_is_unique.Goals as goal

pub returns : goal.returns
returns g c = record {
  canonical = λ F. main.unique F;
  smallest = λ F. main.unique_smallest F;
}
