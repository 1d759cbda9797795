use Rattle.std.proofs.Common.{ℕ, ◌<◌, length, sym, ◌∙◌, arith}
use Rattle.elimination.specs.Arithmetic.{arithmetic}
use Rattle.elimination.proofs.Tables.{row_read}
use Rattle.elimination.proofs.Sums.{at}
use Rattle.elimination.proofs.Tidying.{spans_none, spans_more}
use Rattle.elimination.proofs.reduced_form.fill.Goals as goal

pub loop-v-init : goal.loop-v-init
loop-v-init g c =
    let blank = λ (h p : ℕ) (l : h < length c.args.table.now). at (c.requires.blank h l) p in
    record {
      shape = record { low = λ h p l _. blank h p l; blank = λ h p l _. blank h p l };
      inside = λ h p l _. blank h p l;
      span = spans_none (arithmetic g.S.Codes.Scale.model) _ _ _ blank;
    }

pub insert-requires-clause-below : goal.insert-requires-clause-below
insert-requires-clause-below g c p l =
    sym (at (row_read g.S.Strip.code c.args.source.now c.loop-v.v-index _ (omega arith) c.v-item.is) p) ∙ c.requires.below c.loop-v.v-index p (omega arith) (omega arith)

pub loop-v-preserved : goal.loop-v-preserved
loop-v-preserved g c =
    let row = row_read g.S.Strip.code c.args.source.now c.loop-v.v-index _ (omega arith) c.v-item.is in
    record {
      shape = c.insert.ensures.shape;
      inside = c.insert.ensures.inside;
      span = rw c.insert.auto.table (spans_more (arithmetic g.S.Codes.Scale.model) c.loop-v.v-index _ _ _ _ _ row c.loop-v.invariant.span c.insert.ensures.grows);
    }
