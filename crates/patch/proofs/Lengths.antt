-- How long the encoding of a diagram of k cells is at most. Assumes nothing.
use Rattle.std.proofs.Common.{ℕ, zero, suc, ◌*◌, ◌<◌, ◌≤◌, Bool, true, false, cond, eqb, List, [], ◌∷◌, ◌++◌, length, mul_comm, mul-le-mul, mul-suc, arith, length-append}
use Rattle.linear.specs.Sums.{fold}
use Rattle.patch.specs.Records.{Record, filler, cell, off, on, outlet, unmarked, unclean}
use Rattle.patch.specs.Encoding.{written, unless_zero, cell_records, on_records, outlet_records, diagram_records, encode}

written_most : (rs : List Record) → length (written rs) ≤ 4 * length rs
written_most [] = omega arith
written_most (filler ∷ rs) = omega (arith, written_most rs)
written_most (cell i ∷ rs) = omega (arith, written_most rs)
written_most (off f t c ∷ rs) = omega (arith, written_most rs)
written_most (on f t c ∷ rs) = omega (arith, written_most rs)
written_most (outlet t c ∷ rs) = omega (arith, written_most rs)
written_most (unmarked ∷ rs) = omega (arith, written_most rs)
written_most (unclean ∷ rs) = omega (arith, written_most rs)

unless_most : (c : ℕ) (r : Record) → length (unless_zero c r) ≤ 1
unless_most c r = go (eqb c 0)
  where
    go : (b : Bool) → length (cond b [] (r ∷ [])) ≤ 1
    go true = omega arith
    go false = omega arith

-- lists of at most one record each, and lists of which the one at i has at most i + 1
ones_most : (n : ℕ) (g : ℕ → List Record) → ((i : ℕ) → i < n → length (g i) ≤ 1) → length (fold [] ◌++◌ n g) ≤ n
unfolding fold
ones_most zero g e = omega arith
ones_most (suc n) g e = omega (arith, length-append (fold [] ◌++◌ n g) (g n), ones_most n g (λ i h. e i (omega arith)), e n (omega arith))

rows_most : (n : ℕ) (g : ℕ → List Record) → ((i : ℕ) → i < n → length (g i) ≤ suc i) → 2 * length (fold [] ◌++◌ n g) ≤ n * suc n
unfolding fold
rows_most zero g e = omega arith
rows_most (suc n) g e =
    omega (arith, length-append (fold [] ◌++◌ n g) (g n), rows_most n g (λ i h. e i (omega arith)), e n (omega arith), mul-suc (suc n) (suc n), mul-suc (suc n) n, mul_comm (suc n) n)

-- 31 cells, the on arcs of each to all that come before it and to cell 0, and 32 outlet arcs make 559 records
pub encode_short : (k : ℕ) (inp : ℕ → ℕ) (row : ℕ → ℕ → ℕ) (out : ℕ → ℕ) → k ≤ 31 → length (encode k inp row out) ≤ 2236
unfolding diagram_records
encode_short k inp row out h =
    let cells : length (cell_records k inp row out) ≤ k = ones_most k _ (λ j l. omega arith) in
    let ons : 2 * length (on_records k inp row out) ≤ k * suc k = rows_most k _ (λ j l. ones_most (suc j) _ (λ t m. unless_most (row (suc j) t) _)) in
    let outs : length (outlet_records k inp row out) ≤ suc k = ones_most (suc k) _ (λ t m. unless_most (out t) _) in
    let next : suc k ≤ 32 = omega arith in
    let most : k * suc k ≤ 31 * 32 = mul-le-mul h next in
    omega (
      arith,
      written_most (diagram_records k inp row out),
      length-append (cell_records k inp row out) (on_records k inp row out ++ outlet_records k inp row out),
      length-append (on_records k inp row out) (outlet_records k inp row out),
    )
