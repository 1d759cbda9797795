use Rattle.diagram.proofs.OnlyOne as one
use Rattle.diagram.proofs.canonical_is_settled.Goals as goal

pub returns : goal.returns
returns c = record {
  encodes = λ R. one.encoded_settled R;
  decodes = λ R. one.settled_canonical R;
}
