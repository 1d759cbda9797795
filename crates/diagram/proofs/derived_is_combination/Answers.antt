use Rattle.std.proofs.Common.{◌-◌, arith}
use Rattle.diagram.proofs.Derivation as der
use Rattle.diagram.proofs.derived_is_combination.Goals as goal

pub returns : goal.returns
returns g c = record {
  combined = λ F n E f form same p h d. der.within F n E form f same d;
  lifted = λ F f h p r l s d. der.lifted F f h (r - p) p r (omega arith) s d;
}
