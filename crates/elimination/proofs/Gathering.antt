-- A sum of multiples of rows, row by row: what a loop over the rows of a list from one of them on adds.
use Rattle.std.proofs.Common.{◌≡◌, ℕ, ◌+◌, ◌-◌, ◌<◌, List, length, drop, take, get_or, sym, ap, ◌∙◌, ap₂, add-one, arith, length-drop}
use Rattle.std.proofs.lemmas.List.{get_or-drop}
use Rattle.std.proofs.lemmas.List.FromFn.{length-enumerate_from, get_or-enumerate_from}
use Rattle.std.specs.List.{enumerate_from}
use Rattle.linear.proofs.Ring.{zero_times}
use Rattle.linear.specs.Sums.{fold}
use Rattle.linear.specs.Sums.{sum as total}
use Rattle.scale.specs.Model.{ScaleModel}
use Rattle.strip.specs.Row.{Row}
use Rattle.elimination.specs.Arithmetic.{arithmetic}
use Rattle.elimination.specs.Lift.{up, scalars}
use Rattle.elimination.specs.Rows.{added, rows_in}
use Rattle.elimination.proofs.Tables.{row_at, row_read, row_take, row_drop}
use Rattle.elimination.proofs.Lifting.{up_added, up_is_zero}
use Rattle.elimination.proofs.Sums.{Coded, at}

-- which row the loop has, when it has had n
pub numbered : {S : Type 0} (code : S → Row) (rows : List S) (from n t : ℕ) (x : S) → n < length (drop from (enumerate_from 0 rows))
    → (t, x) ≡ get_or (drop from (enumerate_from 0 rows)) n (t, x) → (t ≡ from + n) × (rows_in code rows (from + n) ≡ code x)
numbered code rows from n t x l e =
    let same : 0 + (from + n) ≡ from + n = omega arith in
    let k : from + n < length rows = omega (arith, length-drop from (enumerate_from 0 rows), length-enumerate_from 0 rows) in
    let q : (t, x) ≡ (0 + (from + n), get_or rows (from + n) x) = e ∙ get_or-drop from (enumerate_from 0 rows) n (t, x) ∙ get_or-enumerate_from 0 rows (from + n) (t, x) k in
    (ap (λ p. p.0) q ∙ same, row_at code rows (from + n) x k ∙ ap code (sym (ap (λ p. p.1) q)))

-- how many it has in all
pub many : {S : Type 0} (rows : List S) (from : ℕ) → length (drop from (enumerate_from 0 rows)) ≡ length rows - from
many rows from = omega (arith, length-drop from (enumerate_from 0 rows), length-enumerate_from 0 rows)

module _ (M : ScaleModel) (r : Row) (R : ℕ → Row) (from : ℕ) where
  -- g is f and the first n multiples
  abbrev pub FirstAdded : ℕ → Row → Row → Type 0
  FirstAdded n f g = (p : ℕ) → up M (g p) ≡ (scalars M).plus (up M (f p)) (total (scalars M) n (λ i. (scalars M).times (up M (r (from + i))) (up M (R (from + i) p))))

  pub none_added : (f : Row) → FirstAdded 0 f f
  unfolding fold
  none_added f p = sym ((scalars M).plus_zero _)

  module _ (n t : ℕ) (place : t ≡ from + n) (f g : Row) (before : FirstAdded n f g) where
    pub row_added : (x h : Row) (c : ℕ) → c ≡ r t → R (from + n) ≡ x → Coded (arithmetic M) g → h ≡ added (arithmetic M) g c x → FirstAdded (n + 1) f h
    unfolding fold
    row_added x h c ec ex hg eh p =
        let term : (scalars M).times (up M c) (up M (x p)) ≡ (scalars M).times (up M (r (from + n))) (up M (R (from + n) p)) =
        ap₂ (λ (a b : ℕ). (scalars M).times (up M a) (up M b)) (ec ∙ ap r place) (sym (at ex p)) in
        rw add-one (ap (up M) (at eh p) ∙ up_added M g x c p (hg p) ∙ ap₂ (scalars M).plus (before p) term ∙ (scalars M).plus_assoc _ _ _)

    pub row_skipped : r t ≡ 0 → FirstAdded (n + 1) f g
    unfolding fold
    row_skipped z p =
        let none : (scalars M).times (up M (r (from + n))) (up M (R (from + n) p)) ≡ (scalars M).zero =
        ap (λ k. (scalars M).times k (up M (R (from + n) p))) (up_is_zero M (ap r (sym place) ∙ z)) ∙ zero_times (scalars M) _ in
        rw add-one (before p ∙ ap ((scalars M).plus (up M (f p))) (sym (ap ((scalars M).plus _) none ∙ (scalars M).plus_zero _)))

-- the row at n of what a list has from one of its rows on
pub part_row : {S : Type 0} (code : S → Row) (rows rest : List S) (from n : ℕ) (x : S) → rest ≡ take (length rows - from) (drop from rows) → length rest + from ≡ length rows
    → n < length rest → x ≡ get_or rest n x → rows_in code rows (from + n) ≡ code x
part_row {S} code rows rest from n x is long l e =
    sym (ap (λ (xs : List S). rows_in code xs n) is ∙ row_take code (drop from rows) (length rows - from) n (omega arith) ∙ row_drop code rows from n) ∙ row_read code rest n x l e
