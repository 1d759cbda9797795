use Rattle.std.proofs.Common.{ℕ, ◌<◌, ◌≤◌, get_or}
use Rattle.settling.specs.Backing.{StepsTo}
use Rattle.settling.proofs.canonicalise.back_all.Given as goal

abbrev pub invariant-loop-e : goal.invariant-loop-e
invariant-loop-e g l = record {
  ends : l.e ≤ l.places.cells;
  edge : (v : ℕ) → v < l.e → get_or l.places.pos v 0 < get_or l.places.pos l.e 0;
  stepped : StepsTo g.S.Codes.Scale.model g.S.Strip.code l.places l.initial.work l.initial.found l.places.cells l.work l.found l.e;
}

abbrev pub decreases-loop-e : goal.decreases-loop-e
decreases-loop-e g l = l.e
