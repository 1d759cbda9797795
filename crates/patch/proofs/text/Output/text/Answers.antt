use Rattle.std.proofs.Common.{◌≡◌, ◌+◌, get_or, drop, set, sym, ap, ◌∙◌, arith}
use Rattle.std.proofs.lemmas.List.{at_drop_more, set_past}
use Rattle.patch.specs.Output.{laid}
use Rattle.patch.proofs.text.Output.text.Goals.{then-end-self, else-end-self}
use Rattle.patch.proofs.text.Output.text.Goals as goal

pub loop-b-preserved : goal.loop-b-preserved
loop-b-preserved c =
    let text = c.args.text.now in
    let out = c.loop-b.self.out.now in
    let end = c.loop-b.end in
    let i = c.loop-b.b-index in
    let same : c.if-end-self.self.out.ghost_name ≡ c.loop-b.self.out.ghost_name =
    elim c.if-end-self.branch [
      | then-end-self w ↦ ap (λ s. s.out.ghost_name) w.self-is
      | else-end-self w ↦ ap (λ s. s.out.ghost_name) w.self-is
    ] in
    let now : c.if-end-self.self.out.now ≡ set out end (get_or text i 0) =
    elim c.if-end-self.branch [
      | then-end-self w ↦ ap (λ s. s.out.now) w.self-is
      | else-end-self w ↦ ap (λ s. s.out.now) w.self-is ∙ sym (set_past out end (get_or text i 0) w.if-end-self.false)
    ] in (
      omega arith,
      same ∙ c.loop-b.invariant.1,
      ap (λ o. laid o (end + 1) (drop (i + 1) text)) now ∙ sym (at_drop_more (laid out end) text i 0 c.loop-b-test.true) ∙ c.loop-b.invariant.2,
    )
