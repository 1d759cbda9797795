use Rattle.diagram.proofs.Encodings as enc
use Rattle.diagram.proofs.echelon_encodes.Goals as goal

pub returns : goal.returns
returns c = record {
  encodes = λ R D ech l. (enc.encoded_patch R D ech l, enc.encoded_kept R D ech, enc.encoded_count R D ech);
  decodes = λ R. enc.decoded_diagram R;
  short = λ R. enc.encoding_short R;
}
