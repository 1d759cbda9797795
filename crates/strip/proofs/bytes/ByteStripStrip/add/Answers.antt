use Rattle.std.proofs.Common.{arith, rules}
use Rattle.strip.proofs.ByteRows.{answered, added, added_zero, added_off}
use Rattle.strip.proofs.Made.{made}
use Rattle.strip.proofs.bytes.ByteStripStrip.add.Goals as goal
use Rattle.strip.proofs.bytes.ByteStripStrip.add.Goals.{else-c-gt0-via-then-c-gt0+else-c-codes, else-c-gt0-via-else-c-gt0}

pub returns-then-c-codes : goal.returns-then-c-codes
returns-then-c-codes g c =
    let M = g.C.Scale.model in
    let s = c.args.self.now.codes in
    let t = c.args.t.now.codes in
    rw c.from_bytes.ensures
    (added M s c.args.c t _ (omega (arith, c.codes.ensures, c.if-c-codes.true))
    (made (answered M s c.args.c t) c.from_fn.ensures.items (λ p r q e. search rules)))

pub returns-else-c-gt0 : goal.returns-else-c-gt0
returns-else-c-gt0 g c =
    let M = g.C.Scale.model in
    elim c.else-c-gt0.branch [
      | else-c-gt0-via-then-c-gt0+else-c-codes w ↦ added_off M c.args.self.now.codes c.args.c c.args.t.now.codes (omega (arith, w.codes.ensures, w.if-c-codes.false))
      | else-c-gt0-via-else-c-gt0 w ↦ added_zero M c.args.self.now.codes c.args.c c.args.t.now.codes (omega (arith, w.if-c-gt0.false))
    ]
