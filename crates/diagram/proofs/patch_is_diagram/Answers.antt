use Rattle.std.proofs.Common.{refl}
use Rattle.diagram.specs.Patches.{reads_as}
use Rattle.diagram.proofs.Patched as patched
use Rattle.diagram.proofs.patch_is_diagram.Goals as goal

pub returns : goal.returns
returns c = record {
  diagram = λ R bytes P. (patched.patch_formed R bytes P, refl, patched.patch_rule R bytes P);
  inputs = λ R bytes P. patched.depends R bytes P;
  reads = λ R. patched.setting_for R;
  settings = λ R f g lf lg. (patched.everywhere R f g lf lg, λ e setting h. e (reads_as R setting));
  turns = λ R. patched.made_turns R;
}
