use Rattle.diagram.proofs.OnlyOne as one
use Rattle.diagram.proofs.no_patch_is_smaller.Goals as goal

pub returns : goal.returns
returns c = record {
  needs = λ R. one.patches_need R;
  smallest = λ R. one.smallest_patch R;
}
