-- The rows of a list of strips: what is read, what a write changes, and what a piece of the list holds.
use Rattle.std.proofs.Common.{◌≡◌, ℕ, zero, suc, ◌+◌, ◌-◌, ◌<◌, ◌≤◌, ◌≢◌, List, [], ◌∷◌, ◌++◌, map, length, take, drop, get_or, set, sym, ap, ◌∙◌, get_or-set_other, get_or-set_same}
use lib.ListN.{length-map}
use lib.Seq.{map-set}
use Rattle.std.proofs.lemmas.List.{get_or-map, map-append, get_or_append_left, get_or-append_right, get_or-take, get_or-drop, take-map, drop-map}
use Rattle.strip.specs.Row.{Row, zeros}
use Rattle.elimination.specs.Rows.{rows_in, RowSet}

module _ {S : Type 0} (code : S → Row) where
  pub row_at : (xs : List S) (i : ℕ) (d : S) → i < length xs → rows_in code xs i ≡ code (get_or xs i d)
  unfolding rows_in
  row_at xs i d h = get_or-map code xs i d zeros h

  pub row_read : (xs : List S) (i : ℕ) (x : S) → i < length xs → x ≡ get_or xs i x → rows_in code xs i ≡ code x
  row_read xs i x h e = row_at xs i x h ∙ ap code (sym e)

  pub set_other : (xs : List S) (i : ℕ) (x : S) (k : ℕ) → k ≢ i → rows_in code (set xs i x) k ≡ rows_in code xs k
  unfolding rows_in
  set_other xs i x k n = rw map-set (get_or-set_other (map code xs) i k (code x) zeros n)

  pub set_row : (xs : List S) (i : ℕ) (x : S) → i < length xs → RowSet (rows_in code xs) i (code x) (rows_in code (set xs i x))
  unfolding rows_in
  set_row xs i x l =
      record {
        here = let b : i < length (map code xs) = rw length-map l in rw map-set (get_or-set_same (map code xs) i (code x) zeros b);
        rest = set_other xs i x;
      }

  pub row_coded : (q : ℕ) → 0 < q → ((s : S) (p : ℕ) → code s p < q) → (xs : List S) (i p : ℕ) → rows_in code xs i p < q
  unfolding rows_in
  row_coded q z h [] i p = z
  row_coded q z h (x ∷ xs) zero p = h x p
  row_coded q z h (x ∷ xs) (suc i) p = row_coded q z h xs i p

  -- of two lists joined
  pub row_left : (xs ys : List S) (k : ℕ) → k < length xs → rows_in code (xs ++ ys) k ≡ rows_in code xs k
  unfolding rows_in
  row_left xs ys k l = let b : k < length (map code xs) = rw length-map l in rw map-append (get_or_append_left (map code xs) (map code ys) zeros k b)

  pub row_right : (xs ys : List S) (n k : ℕ) → length xs ≡ n → n ≤ k → rows_in code (xs ++ ys) k ≡ rows_in code ys (k - n)
  unfolding rows_in
  row_right xs ys n k e l = rw map-append (get_or-append_right (map code xs) (map code ys) n k zeros (length-map xs code ∙ e) l)

  -- of the first n strips, and of those after them
  pub row_take : (xs : List S) (n k : ℕ) → k < n → rows_in code (take n xs) k ≡ rows_in code xs k
  unfolding rows_in
  row_take xs n k l = rw (← take-map code n xs) (get_or-take n (map code xs) k zeros l)

  pub row_drop : (xs : List S) (n k : ℕ) → rows_in code (drop n xs) k ≡ rows_in code xs (n + k)
  unfolding rows_in
  row_drop xs n k = rw (← drop-map code n xs) (get_or-drop n (map code xs) k zeros)
