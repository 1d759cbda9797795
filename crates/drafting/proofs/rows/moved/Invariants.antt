use Rattle.std.proofs.Common.{◌≡◌, ℕ, ◌<◌}
use Rattle.diagram.specs.Passes.{along}
use Rattle.elimination.specs.Lift.{scalars, vec}
use Rattle.drafting.specs.Drafts.{Ends}
use Rattle.drafting.specs.Forms.{place_of}
use Rattle.drafting.proofs.rows.moved.Given as goal

abbrev pub invariant-loop-t : goal.invariant-loop-t
invariant-loop-t g l =
    let s = g.S.Strip in
    let M = g.S.Codes.Scale.model in
    Ends l.part.steady (s.code l.v)
    × (l.part.steady < s.len → (u : ℕ) → vec M (s.code l.v) u ≡ along (scalars M) l.t (place_of l.part) (vec M (s.code l.row)) u)
