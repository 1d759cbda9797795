use Rattle.std.proofs.Common.{◌≡◌, ℕ, ◌-◌, ◌<◌, ◌≤◌, length}
use Rattle.strip.specs.Row.{First}
use Rattle.elimination.specs.Arithmetic.{arithmetic}
use Rattle.elimination.specs.Rows.{rows_in, Balance}
use Rattle.elimination.proofs.reducing.reduce_with.Given as goal

abbrev pub invariant-loop-h : goal.invariant-loop-h
invariant-loop-h g l =
    let s = g.S.Strip in
    let n = length l.table in
    record {
      first : First n (s.code l.v) l.h;
      later : (p : ℕ) → l.h ≤ p → s.code l.coef p ≡ 0;
      sparse : (j : ℕ) → j < n → rows_in s.code l.table j j ≡ 0 → s.code l.coef j ≡ 0;
      early : (k : ℕ) → k ≤ n → ((p : ℕ) → p < k → s.code l.initial.v p ≡ 0) → (k ≤ l.h) × ((p : ℕ) → p < k → s.code l.coef p ≡ 0);
      balance : Balance (arithmetic g.S.Codes.Scale.model) n (s.code l.coef) (rows_in s.code l.table) (s.code l.initial.v) (s.code l.v);
    }

abbrev pub decreases-loop-h : goal.decreases-loop-h
decreases-loop-h g l = length l.table - l.h
