use Rattle.std.proofs.Common.{◌^◌, ◌<◌, get_or, eqb→eq, rules}
use lib.Dec.{eqb_refl}
use Rattle.strip.specs.WordRows.{same_rows, same_low, same_high}
use Rattle.strip.proofs.gates.GateStripStrip.equal.Goals as goal

pub returns-then-self-other : goal.returns-then-self-other
returns-then-self-other c =
    let a = c.args.self.now.words in
    let b = c.args.other.now.words in
    let fa : get_or a 1 0 < 2 ^ 64 = search rules in
    let fb : get_or b 1 0 < 2 ^ 64 = search rules in
    record {
      same = λ t. same_rows a b c.if-self-other.true (eqb→eq (get_or a 1 0) (get_or b 1 0) t);
      all = λ e. rw (same_high a b fa fb e) (eqb_refl (get_or b 1 0));
    }

pub returns-else-self-other : goal.returns-else-self-other
returns-else-self-other c =
    let a = c.args.self.now.words in
    let b = c.args.other.now.words in
    let fa : get_or a 0 0 < 2 ^ 64 = search rules in
    let fb : get_or b 0 0 < 2 ^ 64 = search rules in
    record {
      same = λ t. absurd (c.if-self-other.false (eqb→eq (get_or a 0 0) (get_or b 0 0) t));
      all = λ e. absurd (c.if-self-other.false (same_low a b fa fb e));
    }
