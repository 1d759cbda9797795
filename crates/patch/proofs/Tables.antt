-- Two tables that undo each other make a scan order. Assumes nothing.
use Rattle.std.proofs.Common.{◌≡◌, ℕ, zero, suc, ◌<◌, ◌≤◌, ◌≢◌, List, [], ◌∷◌, length, get_or, sym, ap, ◌∙◌, arith}
use Rattle.std.proofs.lemmas.Bool.{cond-true, cond-false, eq-eqb, ne_eqb}
use Rattle.patch.specs.Faults.{position, Order}

position_first : (xs : List ℕ) (i p : ℕ) → p < length xs → get_or xs p 0 ≡ i → ((r : ℕ) → r < p → get_or xs r 0 ≢ i) → position xs i ≡ p
position_first [] i p h e f = absurd (omega arith)
position_first (x ∷ xs) i zero h e f = cond-true _ _ _ (eq-eqb x i e)
position_first (x ∷ xs) i (suc p) h e f =
    cond-false _ _ _ (ne_eqb x i (f 0 (omega arith))) ∙ ap suc (position_first xs i p (omega arith) e (λ r l. f (suc r) (omega arith)))

module _ (order : List ℕ) (pos : ℕ → ℕ) (some : 0 < length order) (few : length order ≤ 24)
    (listed : (p : ℕ) → p < length order → (get_or order p 0 < length order) × (pos (get_or order p 0) ≡ p))
    (placed : (i : ℕ) → i < length order → (pos i < length order) × (get_or order (pos i) 0 ≡ i)) where
  pub position_is : (i : ℕ) → i < length order → position order i ≡ pos i
  position_is i h =
      position_first order i (pos i) (placed i h).0 (placed i h).1 (
      λ r l e. let a = listed r (omega (arith, (placed i h).0)) in let b : r ≡ pos i = sym a.1 ∙ ap pos e in omega arith)

  pub tables_order : Order order
  tables_order = record {
    some = some;
    few = few;
    listed = λ p h. (listed p h).0;
    placed = λ i h. rw (position_is i h) (placed i h).0;
    there = λ i h. rw (position_is i h) (placed i h).1;
    back = λ p h. position_is (get_or order p 0) (listed p h).0 ∙ (listed p h).1;
  }
