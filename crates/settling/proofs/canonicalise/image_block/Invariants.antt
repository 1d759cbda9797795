use Rattle.settling.specs.Backing.{Images}
use Rattle.settling.proofs.canonicalise.image_block.Given as goal

abbrev pub invariant-loop-h : goal.invariant-loop-h
invariant-loop-h g l = Images g.S.Codes.Scale.model g.S.Strip.code l.initial.work l.work l.m l.run.start l.run.end l.h
