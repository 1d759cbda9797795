use Rattle.std.proofs.Common.{◌≡◌, ◌+◌, ◌≤◌, length, refl, ◌∙◌, arith}
use Rattle.patch.specs.Judging.{meant}
use Rattle.patch.specs.Records.{records, declare}
use Rattle.patch.specs.Windows.{seen}
use Rattle.patch.proofs.Admitting.{shows_few}
use Rattle.patch.proofs.Lined.{lining_starts, lining_more, lining_ends, counts_cell, counts_other, silent_put, loud_put}
use Rattle.patch.proofs.lines.PatchText.put.Goals.{in-Cell, in_default}
use Rattle.patch.proofs.lines.PatchText.put.Goals as goal

pub loop-record-init : goal.loop-record-init
loop-record-init c =
    rw (c.into_iter-record-iterator.ensures.into_iter_gives, c.records-record-items.ensures) (refl, rw c.requires (lining_starts c.args.output.now.out.now (records (seen c.args.self.now))))

pub overflow_add-cells : goal.overflow_add-cells
overflow_add-cells c = omega (arith, shows_few c.args.self.now, c.loop-record.invariant.1.few)

pub line-requires : goal.line-requires
line-requires c = omega (arith, shows_few c.args.self.now, c.loop-record.invariant.1.near)

pub loop-record-preserved : goal.loop-record-preserved
loop-record-preserved c =
    let S = c.loop-record.invariant.1 in
    let e = c.in-Some.record in
    let count : c.match-record.cells ≡ length (declare S.cells (meant e)) =
    elim c.match-record.branch [
      | in-Cell w ↦ w.cells-is ∙ counts_cell S e w.in-Cell.field-0 w.in-Cell.is
      | in_default w ↦ w.cells-is ∙ counts_other S e w.in_default.not-Cell
    ] in
    let low : c.match-record.cells ≤ c.loop-record.cells + 1 = elim c.match-record.branch [ in-Cell w ↦ omega (arith, w.cells-is) | in_default w ↦ omega (arith, w.cells-is) ] in
    (c.line.ensures.puts.same ∙ c.loop-record.invariant.0, lining_more S e _ _ _ _ c.in-Some.ensures.steps count low c.line.ensures.puts.put c.line.ensures.near)

pub returns-then-output-eq0 : goal.returns-then-output-eq0
returns-then-output-eq0 c =
    let lines = lining_ends c.loop-record.invariant.1 c.in-None.ensures.steps.0 in
    let silent = rw c.if-output-eq0.true at c.text.ensures.puts.put in
    record {
      puts = record {
        same = c.text.ensures.puts.same ∙ c.loop-record.invariant.0;
        put = rw c.requires (silent_put _ _ _ _ _ _ lines c.if-output-eq0.true silent);
      };
    }

pub returns-else-output-eq0 : goal.returns-else-output-eq0
returns-else-output-eq0 c =
    let lines = lining_ends c.loop-record.invariant.1 c.in-None.ensures.steps.0 in
    record { puts = record { same = c.loop-record.invariant.0; put = rw c.requires (loud_put _ _ _ _ lines c.if-output-eq0.false) } }
