use Rattle.diagram.proofs.Outlets as outs
use Rattle.diagram.proofs.Values as vals
use Rattle.diagram.proofs.values_open.Goals as goal

pub returns : goal.returns
unfolding vals.opens
returns g c = record {
  opened = λ F n D form. ((λ t. vals.steady_val F n D form t), λ t. vals.open_val F n D form t);
  local = λ F n D form. outs.rule_local F n D form;
}
