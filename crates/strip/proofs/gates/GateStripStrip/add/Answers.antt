use Rattle.strip.specs.WordRows.{added_one, added_none}
use Rattle.strip.proofs.gates.GateStripStrip.add.Goals as goal

pub returns-then-c-eq1 : goal.returns-then-c-eq1
returns-then-c-eq1 c = added_one c.args.self.now.words c.args.c c.args.t.now.words c.if-c-eq1.true

pub returns-else-c-eq1 : goal.returns-else-c-eq1
returns-else-c-eq1 c = added_none c.args.self.now.words c.args.c c.args.t.now.words c.if-c-eq1.false
