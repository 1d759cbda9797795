use Rattle.diagram.proofs.Numbering as nums
use Rattle.diagram.proofs.rule_in_numbers.Goals as goal

pub returns : goal.returns
returns c = λ q plus times neg inv C h n D small a. nums.rule_number C h n D small a
