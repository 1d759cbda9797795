use Rattle.std.proofs.Common.{◌≡◌, length, refl, inl, inr, arith}
use Rattle.std.proofs.Math.Seq.{take-append_seam}
use Rattle.patch.specs.Orders.{miscounted, mislisted}
use Rattle.patch.specs.Undoes.{EachOnce}
use Rattle.patch.proofs.Filling.{Filled, filled_none, filled_more, not_high, not_twice, front_long, once, there, back}
use Rattle.patch.proofs.order.ScanOrder.arrange.Goals.{then-v-n-via-then-v-n, then-v-n-via-else-v-n+then-seen-v}
use Rattle.patch.proofs.order.ScanOrder.arrange.Goals as goal

pub loop-k-init : goal.loop-k-init
loop-k-init c = filled_none c.args.list.now _ refl

pub returns-then-n-eq0 : goal.returns-then-n-eq0
returns-then-n-eq0 c = (refl, miscounted (elim c.then-n-eq0.either [ inl h ↦ inl h | inr h ↦ inr h.1 ]))

pub returns-then-v-n : goal.returns-then-v-n
returns-then-v-n c =
    let xs = c.args.list.now in
    let few = c.if-n-gt24.false in
    let apart : EachOnce xs → ⊥ =
    elim c.then-v-n.branch [
      | then-v-n-via-then-v-n w ↦ not_high xs c.loop-k.k c.loop-k-test.true w.if-v-n.true
      | then-v-n-via-else-v-n+then-seen-v w ↦ not_twice xs c.loop-k.k _ _ c.loop-k.invariant few c.loop-k-test.true w.if-v-n.false w.if-seen-v.true
    ] in (refl, mislisted (omega arith) few apart)

pub loop-k-preserved : goal.loop-k-preserved
loop-k-preserved c =
    filled_more c.args.list.now c.loop-k.k c.loop-k.seen c.loop-k.positions c.loop-k.invariant c.if-n-gt24.false
    c.loop-k-test.true c.if-v-n.false c.if-seen-v.false

pub invariant_of-self : goal.invariant_of-self
invariant_of-self c =
    let xs = c.args.list.now in
    let few = c.if-n-gt24.false in
    let all : c.loop-k.k ≡ length xs = omega arith in
    let f : Filled xs (length xs) c.loop-k.seen c.loop-k.positions = rw all at c.loop-k.invariant in
    rw c.copy_from_slice.ensures.after (
    record {
      some = omega arith;
      few = few;
      room = front_long xs _ refl few;
      there = there xs _ f.within f.placed _ (take-append_seam xs _);
      back = back xs _ f.within f.placed _ (take-append_seam xs _);
    }
    )

pub returns : goal.returns
returns c =
    let xs = c.args.list.now in
    let all : c.loop-k.k ≡ length xs = omega arith in
    let f : Filled xs (length xs) c.loop-k.seen c.loop-k.positions = rw all at c.loop-k.invariant in
    record { some = omega arith; few = c.if-n-gt24.false; once = once xs _ f.within f.placed; is = rw c.copy_from_slice.ensures.after (take-append_seam xs _) }
