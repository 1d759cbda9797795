use Rattle.std.proofs.Common.{length}
use Rattle.elimination.specs.Arithmetic.{arithmetic}
use Rattle.elimination.specs.Rows.{rows_in, Echelon, Tidy, SameSpan}
use Rattle.elimination.proofs.reduced_form.tidy.Given as goal

abbrev pub invariant-loop-h : goal.invariant-loop-h
invariant-loop-h g l =
    let s = g.S.Strip in
    let n = length l.table in
    let R = rows_in s.code l.table in
    record {
      shape : Echelon n R;
      tidy : Tidy l.h n R;
      span : SameSpan (arithmetic g.S.Codes.Scale.model) n (rows_in s.code l.initial.table) R;
    }
