use Rattle.std.proofs.Common.{length}
use Rattle.elimination.specs.Arithmetic.{arithmetic}
use Rattle.elimination.specs.Lift.{Inside}
use Rattle.elimination.specs.Rows.{rows_in, Echelon, SpansAs}
use Rattle.elimination.proofs.reduced_form.fill.Given as goal

abbrev pub invariant-loop-v : goal.invariant-loop-v
invariant-loop-v g l =
    let s = g.S.Strip in
    let n = length l.table in
    let R = rows_in s.code l.table in
    record {
      shape : Echelon n R;
      inside : Inside n R;
      span : SpansAs (arithmetic g.S.Codes.Scale.model) l.v-index (rows_in s.code l.source) n R;
    }
