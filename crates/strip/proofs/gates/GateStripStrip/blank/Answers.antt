use Rattle.strip.specs.WordRows.{blank_row}
use Rattle.strip.proofs.gates.GateStripStrip.blank.Goals as goal

pub returns : goal.returns
returns c = blank_row
