use Rattle.std.proofs.Common.{◌<◌}
use Rattle.linear.proofs.Codes as cod
use Rattle.linear.proofs.Dimension as dim
use Rattle.linear.proofs.Echelon as ech
use Rattle.linear.proofs.Four as fou
use Rattle.linear.proofs.linear_algebra_stands.Goals as goal

pub returns : goal.returns
returns g c = record {
  dimension = λ F. dim.dimension F;
  unique = λ F. ech.unique F;
  below = λ F w. ech.unique_on F (λ t. t < w);
  coefficient = λ F. ech.coefficient F;
  dimensioncodes = λ q plus times neg inv C. cod.dimension_codes C;
  four = fou.four;
  uniquecodes = λ q plus times neg inv C. cod.unique_codes C;
}
