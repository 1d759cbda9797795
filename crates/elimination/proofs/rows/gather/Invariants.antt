use Rattle.elimination.specs.Rows.{rows_in}
use Rattle.elimination.proofs.Gathering.{FirstAdded}
use Rattle.elimination.proofs.rows.gather.Given as goal

abbrev pub invariant-loop-i : goal.invariant-loop-i
invariant-loop-i g l =
    let s = g.S.Strip in
    FirstAdded g.S.Codes.Scale.model (s.code l.r) (rows_in s.code l.rows) l.from l.i (s.code l.initial.sum) (s.code l.sum)
