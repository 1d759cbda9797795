use Rattle.std.proofs.Common.{◌≡◌, ℕ, ◌<◌, ◌≤◌}
use Rattle.elimination.specs.Arithmetic.{arithmetic}
use Rattle.elimination.specs.Rows.{rows_in, Cleared}
use Rattle.elimination.proofs.reduced_form.clear_column.Given as goal

abbrev pub invariant-loop-v : goal.invariant-loop-v
invariant-loop-v g l =
    let s = g.S.Strip in
    record {
      done : (k : ℕ) → k < l.v-index → (c : ℕ) × Cleared (arithmetic g.S.Codes.Scale.model) (rows_in s.code l.initial.above k) (s.code l.row) l.h c (rows_in s.code l.above k);
      todo : (k : ℕ) → l.v-index ≤ k → rows_in s.code l.above k ≡ rows_in s.code l.initial.above k;
    }
