use Rattle.std.proofs.Common.{ℕ, ◌≡◌, ◌<◌, ◌≤◌, length, refl, sym, ◌∙◌, arith}
use Rattle.elimination.proofs.Grids.{outside_trans}
use Rattle.drafting.specs.Forms.{place_of, Free, Held}
use Rattle.drafting.proofs.Bounding.{dif_stored, off_stored}
use Rattle.drafting.proofs.Copying.{next_within, next_reads, next_more, off_outside, dif_outside, one_copied, none_more, free_none, held_none, free, not_free, held, other_not_held, off_not_held}
use Rattle.drafting.proofs.Moving.{place_low}
use Rattle.drafting.proofs.from_forms.copy_cells.Goals.{in_default-via-in-Some-tied+else-read-input, in_default-via-in_default}
use Rattle.drafting.proofs.from_forms.copy_cells.Goals as goal

pub loop-read-preserved-then-on : goal.loop-read-preserved-then-on
loop-read-preserved-then-on g c =
    let M = g.S.Codes.Scale.model in
    let code = g.S.Strip.code in
    let len = g.S.Strip.len in
    let form = c.args.form.now in
    let part = c.args.part.now in
    let tied = c.args.tied in
    let before = c.loop-read.invariant in
    let step = c.in-Some.ensures.steps in
    let t : ℕ = c.loop-read.read-iterator.b.start in
    let is : c.in-Some.t ≡ t = step.1.0 in
    let some = before.next.some in
    let last : t ≤ length form.inputs.now = next_within before.next c.in-Some.read.now _ step.0 in
    let reads = next_reads before.next c.in-Some.read.now _ step.0 in
    let next = next_more before.next c.in-Some.read.now _ step.0 in
    let low : (i : ℕ) → place_of part i < 128 = λ i. omega (arith, place_low part i, part.few) in
    let here : c.place-place.result < 128 = omega (arith, c.place-place.ensures.within, part.few) in
    let placed : c.place-place.result ≡ place_of part t = rw is at c.place-place.ensures.is in
    let moved = rw is at c.moved_row-row.ensures.row in
    let input = c.in-Some-tied.input in
    let on = c.in-Some-tied.on in
    let tie = c.in-Some-tied.is in
    let e = reads ∙ c.if-read-input.true in
    let set = c.store.ensures.row in
    let out = c.store.ensures.outside in
    rw (step.1.1, is) (
    record {
      next = next;
      bounded = off_stored code _ _ _ _ part.few c.place-place.ensures.within before.bounded _ set out c.moved_row-row.ensures.ends;
      dif = none_more M code len part form 128 (Free form tied) _ _ _ _ before.dif some last (not_free form t tied input on tie e) (λ k b. (out 128 here).after 128 k (omega arith)) low;
      off = one_copied M code len part form 0 (Held form tied) _ _ _ _ before.off some last _ _ _ set placed (held form t tied input on tie e c.if-on.true) refl moved;
      outside = outside_trans code _ _ _ 0 256 before.outside (off_outside code _ _ (out 128 here));
    })

pub loop-read-preserved-else-on : goal.loop-read-preserved-else-on
loop-read-preserved-else-on g c =
    let M = g.S.Codes.Scale.model in
    let code = g.S.Strip.code in
    let len = g.S.Strip.len in
    let form = c.args.form.now in
    let part = c.args.part.now in
    let tied = c.args.tied in
    let before = c.loop-read.invariant in
    let step = c.in-Some.ensures.steps in
    let t : ℕ = c.loop-read.read-iterator.b.start in
    let is : c.in-Some.t ≡ t = step.1.0 in
    let some = before.next.some in
    let last : t ≤ length form.inputs.now = next_within before.next c.in-Some.read.now _ step.0 in
    let reads = next_reads before.next c.in-Some.read.now _ step.0 in
    let next = next_more before.next c.in-Some.read.now _ step.0 in
    let low : (i : ℕ) → place_of part i < 128 = λ i. omega (arith, place_low part i, part.few) in
    let input = c.in-Some-tied.input in
    let on = c.in-Some-tied.on in
    let tie = c.in-Some-tied.is in
    rw (step.1.1, is) (
    record {
      next = next;
      bounded = before.bounded;
      dif = none_more M code len part form 128 (Free form tied) _ _ _ _ before.dif some last (not_free form t tied input on tie (reads ∙ c.if-read-input.true)) (λ k b. refl) low;
      off = none_more M code len part form 0 (Held form tied) _ _ _ _ before.off some last (off_not_held form t tied input on tie c.if-on.false) (λ k b. refl) low;
      outside = before.outside;
    })

pub loop-read-preserved : goal.loop-read-preserved
loop-read-preserved g c =
    let M = g.S.Codes.Scale.model in
    let code = g.S.Strip.code in
    let len = g.S.Strip.len in
    let form = c.args.form.now in
    let part = c.args.part.now in
    let tied = c.args.tied in
    let before = c.loop-read.invariant in
    let step = c.in-Some.ensures.steps in
    let t : ℕ = c.loop-read.read-iterator.b.start in
    let is : c.in-Some.t ≡ t = step.1.0 in
    let some = before.next.some in
    let last : t ≤ length form.inputs.now = next_within before.next c.in-Some.read.now _ step.0 in
    let reads = next_reads before.next c.in-Some.read.now _ step.0 in
    let next = next_more before.next c.in-Some.read.now _ step.0 in
    let low : (i : ℕ) → place_of part i < 128 = λ i. omega (arith, place_low part i, part.few) in
    let here : c.place-place.result < 128 = omega (arith, c.place-place.ensures.within, part.few) in
    let placed : c.place-place.result ≡ place_of part t = rw is at c.place-place.ensures.is in
    let moved = rw is at c.moved_row-row.ensures.row in
    let at_once : Free form tied t × (Held form tied t → ⊥) = elim c.in_default.branch [
      | in_default-via-in-Some-tied+else-read-input w ↦ (
        free form t tied w.in-Some-tied.input w.in-Some-tied.on w.in-Some-tied.is (λ e. w.if-read-input.false (sym reads ∙ e)),
        other_not_held form t tied w.in-Some-tied.input w.in-Some-tied.on w.in-Some-tied.is (λ e. w.if-read-input.false (sym reads ∙ e)),
      )
      | in_default-via-in_default w ↦ (free_none form t tied w.in_default.not-Some, held_none form t tied w.in_default.not-Some)
    ] in
    let set = c.store-in_default.ensures.row in
    let out = c.store-in_default.ensures.outside in
    rw (step.1.1, is) (
    record {
      next = next;
      bounded = dif_stored code _ _ _ _ part.few c.place-place.ensures.within before.bounded _ set out c.moved_row-row.ensures.ends;
      dif = one_copied M code len part form 128 (Free form tied) _ _ _ _ before.dif some last _ _ _ set placed at_once.0 refl moved;
      off = none_more M code len part form 0 (Held form tied) _ _ _ _ before.off some last at_once.1 (λ k b. (out 128 here).before 0 k (omega arith)) low;
      outside = outside_trans code _ _ _ 0 256 before.outside (dif_outside code _ _ (out 128 here));
    })
