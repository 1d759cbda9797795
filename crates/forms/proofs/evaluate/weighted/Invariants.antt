use Rattle.std.proofs.Common.{◌≡◌, ◌<◌}
use Rattle.elimination.specs.Lift.{up}
use Rattle.forms.specs.Sounding.{weighed_up}
use Rattle.forms.proofs.evaluate.weighted.Given as goal

abbrev pub invariant-loop-t : goal.invariant-loop-t
invariant-loop-t g l =
    let M = g.S.Codes.Scale.model in
    (l.sum < M.q) × (up M l.sum ≡ weighed_up M (g.S.Strip.code l.row) l.t l.values)
