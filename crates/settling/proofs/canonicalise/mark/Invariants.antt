use Rattle.settling.specs.Backing.{Marked}
use Rattle.settling.proofs.canonicalise.mark.Given as goal

abbrev pub invariant-loop-h : goal.invariant-loop-h
invariant-loop-h g l = Marked g.S.Strip.code l.initial.work l.work l.fn.run.start l.h l.k l.j
