use Rattle.std.proofs.Common.{◌≡◌, ◌%◌, length, ◌∙◌, arith}
use Rattle.std.proofs.lemmas.Nat.{one_shl}
use Rattle.strip.specs.WordRows.{put_turned}
use Rattle.strip.proofs.gates.GateStripStrip.put.Goals as goal

pub returns-then-ask-c : goal.returns-then-ask-c
returns-then-ask-c c =
    let ws = c.args.self.now.words in
    let p = c.args.place in
    let two : length ws ≡ 2 = omega arith in
    put_turned ws p _ two c.if-place-lt128.true (one_shl (p % 64) 64 (omega arith)) c.args.c c.if-c-lt2.true (λ e. c.if-ask-c.true (c.ask.ensures ∙ e))
