-- The rows of working memory from a place on: what is read, and what a write changes.
use Rattle.std.proofs.Common.{◌≡◌, ℕ, ◌+◌, ◌<◌, ◌≢◌, List, length, get_or, set, refl, ◌∙◌, arith}
use Rattle.strip.specs.Row.{Row}
use Rattle.elimination.specs.Rows.{rows_in, Rows, Outside, RowSet}
use Rattle.elimination.proofs.Tables.{row_at, row_read, row_coded, set_other, set_row}

-- f is the row at i from base on, and every other row is as it was
pub record Stored {S : Type 0} (code : S → Row) (xs : List S) (base i : ℕ) (f : Row) (ys : List S) : Type 0 where
  pub here : Rows code ys base i ≡ f
  pub other : (b k : ℕ) → b + k ≢ base + i → Rows code ys b k ≡ Rows code xs b k

module _ {S : Type 0} (code : S → Row) where
  -- a row by its place in the whole memory
  pub rows_from : (xs : List S) (base i : ℕ) → rows_in code xs (base + i) ≡ Rows code xs base i
  unfolding Rows
  rows_from xs base i = refl

  pub rows_at : (xs : List S) (base i : ℕ) (d : S) → base + i < length xs → Rows code xs base i ≡ code (get_or xs (base + i) d)
  unfolding Rows
  rows_at xs base i d h = row_at code xs (base + i) d h

  pub rows_read : (xs : List S) (base i : ℕ) (x : S) → base + i < length xs → x ≡ get_or xs (base + i) x → Rows code xs base i ≡ code x
  unfolding Rows
  rows_read xs base i x h e = row_read code xs (base + i) x h e

  pub rows_coded : (q : ℕ) → 0 < q → ((s : S) (p : ℕ) → code s p < q) → (xs : List S) (base i p : ℕ) → Rows code xs base i p < q
  unfolding Rows
  rows_coded q z h xs base i p = row_coded code q z h xs (base + i) p

  -- what `store` says
  pub stored : (xs ys : List S) (base i : ℕ) (f : Row) → RowSet (rows_in code xs) (base + i) f (rows_in code ys) → Stored code xs base i f ys
  unfolding Rows
  stored xs ys base i f s = record { here = s.here; other = λ b k n. s.rest (b + k) n }

  pub set_stored : (xs : List S) (base i : ℕ) (x : S) → base + i < length xs → Stored code xs base i (code x) (set xs (base + i) x)
  set_stored xs base i x l = stored xs _ base i (code x) (set_row code xs (base + i) x l)

  pub stored_outside : {xs ys : List S} {base i : ℕ} {f : Row} → Stored code xs base i f ys → (len : ℕ) → i < len → Outside code xs base len ys
  stored_outside s len l = record { before = λ b k h. s.other b k (omega arith); after = λ b k h. s.other b k (omega arith) }

  pub rows_same : (xs : List S) (base i : ℕ) (x : S) → base + i < length xs → Rows code (set xs (base + i) x) base i ≡ code x
  rows_same xs base i x l = (set_stored xs base i x l).here

  pub rows_other : (xs : List S) (base i k : ℕ) (x : S) → k ≢ i → Rows code (set xs (base + i) x) base k ≡ Rows code xs base k
  unfolding Rows
  rows_other xs base i k x n = set_other code xs (base + i) x (base + k) (omega arith)

  pub row_set : (xs : List S) (base i : ℕ) (x : S) → base + i < length xs → RowSet (Rows code xs base) i (code x) (Rows code (set xs (base + i) x) base)
  row_set xs base i x l = record { here = rows_same xs base i x l; rest = λ k n. rows_other xs base i k x n }

  pub set_outside : (xs : List S) (base len i : ℕ) (x : S) → i < len → Outside code xs base len (set xs (base + i) x)
  unfolding Rows
  set_outside xs base len i x l =
      record { before = λ b k s. set_other code xs (base + i) x (b + k) (omega arith); after = λ b k s. set_other code xs (base + i) x (b + k) (omega arith) }

  pub outside_trans : (xs ys zs : List S) (base len : ℕ) → Outside code xs base len ys → Outside code ys base len zs → Outside code xs base len zs
  outside_trans xs ys zs base len a b =
      record { before = λ d k s. b.before d k s ∙ a.before d k s; after = λ d k s. b.after d k s ∙ a.after d k s }
