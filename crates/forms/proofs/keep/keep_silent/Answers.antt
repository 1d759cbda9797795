use Rattle.std.proofs.Common.{◌∙◌}
use Rattle.forms.proofs.Filling.{blank_filled, part_long}
use Rattle.forms.proofs.keep.keep_silent.Goals as goal

pub returns : goal.returns
returns g c = blank_filled g.S.Strip.code c.args.slot.now c.wipe.new.table c.requires.slot (c.wipe.auto.table ∙ part_long g.S.Strip.code c.args.slot.now 0 32 c.requires.slot) c.wipe.ensures.blank
