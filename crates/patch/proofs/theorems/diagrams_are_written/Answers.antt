use Rattle.std.proofs.Common.{ap, ◌∙◌}
use Rattle.patch.specs.Records.{cells_of}
use Rattle.patch.specs.Paths.{bit}
use Rattle.patch.proofs.Decoded as dec
use Rattle.patch.proofs.Encoded as enc
use Rattle.patch.proofs.Rowsum as row
use Rattle.patch.proofs.theorems.diagrams_are_written.Goals as goal

pub returns : goal.returns
returns c = record {
  encodes = λ q plus times neg inv C order o k inp r out head H. (
    enc.is_patch order q k inp r out head H o,
    enc.keeps order q k inp r out head H,
    ap cells_of (enc.back order q k inp r out head H) ∙ enc.count_is order q k inp r out head H,
    λ s. row.encoded_rule C order o k inp r out head H (bit s),
  );
  alike = row.encode_same;
  rows = λ q plus times neg inv C order o k inp r out head H s. row.row_values C order o k inp r out head H (bit s);
  decodes = dec.decoded;
}
