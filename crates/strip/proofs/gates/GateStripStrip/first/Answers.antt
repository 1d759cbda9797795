use Rattle.strip.specs.WordRows.{first_low, first_high}
use Rattle.strip.proofs.gates.GateStripStrip.first.Goals as goal

pub returns-then-low-lt64 : goal.returns-then-low-lt64
returns-then-low-lt64 c = first_low c.args.self.now.words c.if-low-lt64.true

pub returns-else-low-lt64 : goal.returns-else-low-lt64
returns-else-low-lt64 c = first_high c.args.self.now.words c.if-low-lt64.false
