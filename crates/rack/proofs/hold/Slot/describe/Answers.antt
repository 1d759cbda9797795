use Rattle.std.proofs.Common.{◌≡◌, ◌<◌, ◌+◌, ◌-◌, drop, get_or, refl, ap, ◌∙◌, arith, length-set, length-take}
use Rattle.std.proofs.lemmas.List.Edits.{get_or-between}
use Rattle.patch.specs.Orders.{listed}
use Rattle.forms.proofs.Arrays.{zeros_at}
use Rattle.rack.proofs.Describing.{none_noted, one_noted}
use Rattle.rack.proofs.hold.Slot.describe.Goals as goal

pub loop-k-init : goal.loop-k-init
loop-k-init g c = ((λ j. zeros_at 31 j ∙ none_noted (listed c.args.order.now) c.args.form.now.places.pos j), refl)

pub loop-k-preserved : goal.loop-k-preserved
loop-k-preserved g c =
    let order = listed c.args.order.now in
    let pos = c.args.form.now.places.pos in
    let cells = c.args.form.now.places.cells in
    let k = c.loop-k.k in
    let h : k < cells = omega (arith, c.loop-k-test.true, length-take (cells + 1 - 1) (drop 1 pos)) in
    let one : 1 + k ≡ k + 1 = omega arith in
    let x = c.input.ensures ∙ ap (λ p. get_or order p 0) (get_or-between pos 1 (cells + 1) k 0 (omega arith) ∙ ap (λ i. get_or pos i 0) one) in (
      one_noted order pos c.loop-k.inputs k c.input.result (omega (arith, h, c.args.form.now.places.few, c.loop-k.invariant.1)) x c.loop-k.invariant.0,
      length-set c.loop-k.inputs k c.input.result ∙ c.loop-k.invariant.1,
    )
