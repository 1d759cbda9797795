use Rattle.std.proofs.Common.{◌+◌}
use Rattle.settling.specs.Backing.{Numbered}
use Rattle.settling.proofs.canonicalise.number.Given as goal

abbrev pub invariant-loop-k : goal.invariant-loop-k
invariant-loop-k g l = Numbered g.S.Strip.code l.initial.work l.initial.found.pos l.work l.found.pos l.p l.run.start l.run.end (l.initial.found.cells + 1) l.k (l.found.cells + 1)
