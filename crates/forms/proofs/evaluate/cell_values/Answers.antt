use Rattle.std.proofs.Common.{◌+◌, ◌<◌, ◌≢◌, zero, suc, refl, sym, ap, ◌∙◌, length, arith, length-set, get_or-set_other}
use Rattle.std.specs.List.{between}
use Rattle.std.proofs.lemmas.List.{length-append, length-take-le}
use Rattle.elimination.specs.Rows.{Rows}
use Rattle.strip.specs.Row.{Row}
use Rattle.forms.specs.Sounding.{weighed_up}
use Rattle.forms.proofs.Arrays.{zeros_at}
use Rattle.forms.proofs.Filling.{part_long, part_read, row_moved}
use Rattle.forms.proofs.Sounding.{valued_on, valued_off, next_bit, weighed_part}
use Rattle.forms.proofs.Turns.{cell_turn}
use Rattle.forms.proofs.evaluate.cell_values.Goals as goal

pub loop-k-init : goal.loop-k-init
loop-k-init g c = (record { steady = refl; cell = λ j z h. absurd (omega arith) }, elim [ zero ↦ (λ h. absurd (omega arith)) | suc j ↦ (λ h. zeros_at 31 j) ], refl)

pub slice_bounds-values-end : goal.slice_bounds-values-end
slice_bounds-values-end g c =
    let form = c.args.form.now in
    let xs = form.strips.now in
    let t = cell_turn (between 1 (length xs) xs) form.inputs.now c.into_iter-k-iterator.result c.loop-k.k-iterator c.next.new.self c.loop-k.yielded (cc) (cc) (cc) c.loop-k.yielded_by c.in-Some.k c.in-Some.row c.in-Some.input c.in-Some.ensures.steps in
    omega (arith, t.0, t.2, form.few, c.loop-k.invariant.2)

pub loop-k-preserved-then-reads_one : goal.loop-k-preserved-then-reads_one
loop-k-preserved-then-reads_one g c =
    let code = g.S.Strip.code in
    let M = g.S.Codes.Scale.model in
    let form = c.args.form.now in
    let xs = form.strips.now in
    let m = length c.loop-k.yielded in
    let values = c.loop-k.values in
    let t = cell_turn (between 1 (length xs) xs) form.inputs.now c.into_iter-k-iterator.result c.loop-k.k-iterator c.next.new.self c.loop-k.yielded (cc) (cc) (cc) c.loop-k.yielded_by c.in-Some.k c.in-Some.row c.in-Some.input c.in-Some.ensures.steps in
    let room : m + 1 < length values = omega (arith, t.2, form.few, c.loop-k.invariant.2) in
    let value = rw t.0 at c.weighted.ensures.value in
    let row = part_read code xs 1 (length xs) m c.in-Some.row.now (omega (arith, t.1, part_long code xs 1 (length xs) (omega arith))) (omega arith) t.3 ∙ row_moved code xs 1 m 0 (m + 1) (omega arith) in
    rw (length-append, t.0) (
      valued_on M (Rows code xs 0) form.inputs.now c.args.setting m values c.loop-k.invariant.0 c.weighted.result room (next_bit M form.inputs.now c.args.setting m c.in-Some.input.now _ t.4 c.if-reads_one.ensures) (
          value ∙ weighed_part M (code c.in-Some.row.now) values (m + 1) (omega (arith, room)) ∙ ap (λ (r : Row). weighed_up M r (m + 1) values) row),
      λ j h. let n : j ≢ m + 1 = omega arith in get_or-set_other values (m + 1) j _ 0 n ∙ c.loop-k.invariant.1 j (omega arith),
      length-set values (m + 1) _ ∙ c.loop-k.invariant.2,
    )

pub slice_bounds-weighted-end : goal.slice_bounds-weighted-end
slice_bounds-weighted-end g c =
    let form = c.args.form.now in
    let xs = form.strips.now in
    let t = cell_turn (between 1 (length xs) xs) form.inputs.now c.into_iter-k-iterator.result c.loop-k.k-iterator c.next.new.self c.loop-k.yielded (cc) (cc) (cc) c.loop-k.yielded_by c.in-Some.k c.in-Some.row c.in-Some.input c.in-Some.ensures.steps in
    sym (length-take-le (c.in-Some.k + 1) c.loop-k.values (omega (arith, t.0, t.2, form.few, c.loop-k.invariant.2)))

pub loop-k-preserved : goal.loop-k-preserved
loop-k-preserved g c =
    let form = c.args.form.now in
    let xs = form.strips.now in
    let m = length c.loop-k.yielded in
    let t = cell_turn (between 1 (length xs) xs) form.inputs.now c.into_iter-k-iterator.result c.loop-k.k-iterator c.next.new.self c.loop-k.yielded (cc) (cc) (cc) c.loop-k.yielded_by c.in-Some.k c.in-Some.row c.in-Some.input c.in-Some.ensures.steps in
    rw length-append (
      valued_off g.S.Codes.Scale.model (Rows g.S.Strip.code xs 0) form.inputs.now c.args.setting m c.loop-k.values c.loop-k.invariant.0 (
          next_bit g.S.Codes.Scale.model form.inputs.now c.args.setting m c.in-Some.input.now _ t.4 c.if-reads_one.ensures) (c.loop-k.invariant.1 (m + 1) (omega arith)),
      λ j h. c.loop-k.invariant.1 j (omega arith),
      c.loop-k.invariant.2,
    )
