use Rattle.std.proofs.Common.{◌≡◌, length, refl, arith}
use Rattle.forms.proofs.Writing.{copied}
use Rattle.forms.proofs.encoding.Encoder.put.Goals as goal

pub returns-clause-puts : goal.returns-clause-puts
returns-clause-puts c =
    let long : length c.args.four ≡ 4 = omega (arith, c.well_formed) in
    record {
      same_output = refl;
      puts = copied c.args.self.now.out.now c.args.four c.copy_from_slice.new.self c.args.self.now.at _ _ c.copy_from_slice.ensures.after (omega (arith, long)) (omega (arith, long)) (omega (arith, c.requires.room));
    }
