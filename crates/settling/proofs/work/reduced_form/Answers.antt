use Rattle.std.proofs.Common.{◌+◌, ◌-◌, ◌∙◌, arith}
use Rattle.elimination.specs.Arithmetic.{arithmetic}
use Rattle.elimination.proofs.Parts.{split_part, split_held, split_placed, echelon_out, tidy_out, spans_as_out}
use Rattle.elimination.proofs.Sums.{at}
use Rattle.settling.proofs.work.reduced_form.Goals as goal

pub reduced_form-requires-clause-below : goal.reduced_form-requires-clause-below
reduced_form-requires-clause-below g c i p l b =
    let split = c.split_at_mut-before in
    let source = split_part g.S.Strip.code c.args.work.now split.result.0.now split.result.1.now c.args.base split.ensures.front split.ensures.back c.args.from (c.args.from + c.args.count - c.args.from) c.args.count (omega arith) (omega arith) (omega arith) in
    let table = split_held g.S.Strip.code c.args.work.now split.result.0.now split.result.1.now c.args.base split.ensures.front split.ensures.back c.args.size (omega arith) in
    at (source.rows i (omega (arith, source.long))) p ∙ c.requires.below i p (omega (arith, source.long)) (omega (arith, table.long))

pub returns : goal.returns
returns g c =
    let s = g.S.Strip in
    let w = c.args.work.now in
    let split = c.split_at_mut-before in
    let source = split_part s.code w split.result.0.now split.result.1.now c.args.base split.ensures.front split.ensures.back c.args.from (c.args.from + c.args.count - c.args.from) c.args.count (omega arith) (omega arith) (omega arith) in
    let table = split_placed s.code w split.result.0.now split.result.1.now c.args.base split.ensures.front split.ensures.back c.args.size (omega arith) c.reduced_form.new.table c.reduced_form.auto.table in
    record {
      shape = echelon_out table.held c.reduced_form.ensures.shape;
      tidy = tidy_out table.held c.reduced_form.ensures.tidy;
      span = spans_as_out source table.held (arithmetic g.S.Codes.Scale.model) c.reduced_form.ensures.span;
      outside = table.outside;
    }
