use Rattle.std.proofs.Common.{rules}
use Rattle.strip.proofs.ByteRows.{blank_codes}
use Rattle.strip.proofs.bytes.ByteStripStrip.blank.Goals as goal

pub returns : goal.returns
returns g c = blank_codes g.C.Scale.model.q c.from_bytes.result.codes (search rules)
