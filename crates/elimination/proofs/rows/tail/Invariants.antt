use Rattle.std.proofs.Common.{◌≡◌, ℕ, ◌-◌, ◌≤◌}
use Rattle.strip.specs.Row.{First}
use Rattle.elimination.proofs.rows.tail.Given as goal

abbrev pub invariant-loop-p : goal.invariant-loop-p
invariant-loop-p g l =
    let s = g.S.Strip in
    record {
      first : First s.len (s.code l.s) l.p;
      high : (p : ℕ) → l.e ≤ p → s.code l.s p ≡ s.code l.initial.s p;
    }

abbrev pub decreases-loop-p : goal.decreases-loop-p
decreases-loop-p g l = l.e - l.p
