use Rattle.patch.specs.Orders.{listed}
use Rattle.patch.specs.Windows.{seen}
use Rattle.patch.proofs.Admitting.{admitted_patch, admitted_short, admits_patches, shows_all}
use Rattle.patch.proofs.theorems.windows_show_patches.Goals as goal

pub returns : goal.returns
returns c = record {
  shown = λ w. (
    admitted_patch (listed w.setup.order) w.setup.places w.setup.codes (seen w) w.admitted,
    admitted_short (listed w.setup.order) w.setup.places w.setup.codes (seen w) w.admitted,
  );
  whole = shows_all;
  admitted = admits_patches;
}
