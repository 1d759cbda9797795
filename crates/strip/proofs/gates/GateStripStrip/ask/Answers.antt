use Rattle.std.proofs.Common.{sym, ◌∙◌}
use lib.Bits.{and_mask}
use Rattle.strip.specs.Words.{bit}
use Rattle.strip.specs.WordRows.{inside}
use Rattle.strip.proofs.gates.GateStripStrip.ask.Goals as goal

pub returns-then-place-lt128 : goal.returns-then-place-lt128
unfolding bit
returns-then-place-lt128 c = and_mask _ 1 ∙ sym (inside c.args.self.now.words c.args.place c.if-place-lt128.true)
