-- A scan order's tables as its list. Assumes nothing.
use Rattle.std.proofs.Common.{◌≡◌, ℕ, suc, ◌<◌, ◌≤◌, ◌≢◌, List, [], ◌∷◌, length, get_or, refl, ap, ◌∙◌, arith}
use Rattle.std.proofs.lemmas.List.{length-take-le, get_or-take}
use Rattle.std.proofs.lemmas.Bool.{cond-false, ne_eqb}
use Rattle.patch.specs.declared.order.ScanOrder.{ScanOrder}
use Rattle.patch.specs.Faults.{position, Order}
use Rattle.patch.specs.Orders.{listed}
use Rattle.patch.proofs.Tables.{position_is, tables_order}

pub position_past : (xs : List ℕ) (i : ℕ) → ((r : ℕ) → r < length xs → get_or xs r 0 ≢ i) → position xs i ≡ length xs
position_past [] i f = refl
position_past (x ∷ xs) i f =
    cond-false _ _ _ (ne_eqb x i (f 0 (omega arith))) ∙ ap suc (position_past xs i (λ r l. f (suc r) (omega arith)))

module _ (s : ScanOrder) where
  pub listed_length : length (listed s) ≡ s.count
  listed_length = length-take-le s.count s.inputs (omega (arith, s.few, s.room))

  pub listed_at : (k : ℕ) → k < s.count → get_or (listed s) k 0 ≡ get_or s.inputs k 0
  listed_at k h = get_or-take s.count s.inputs k 0 h

  there : (p : ℕ) → p < length (listed s) → (get_or (listed s) p 0 < length (listed s)) × (get_or s.positions (get_or (listed s) p 0) 0 ≡ p)
  there p h =
      let l : p < s.count = omega (arith, listed_length) in
      let e = listed_at p l in
      let t = s.there p l in (omega (arith, listed_length, e, t.0), ap (λ m. get_or s.positions m 0) e ∙ t.1)

  back : (i : ℕ) → i < length (listed s) → (get_or s.positions i 0 < length (listed s)) × (get_or (listed s) (get_or s.positions i 0) 0 ≡ i)
  back i h =
      let l : i < s.count = omega (arith, listed_length) in
      let t = s.back i l in (omega (arith, listed_length, t.0), listed_at _ t.0 ∙ t.1)

  -- what a scan order lists is one
  pub lawful : Order (listed s)
  lawful =
      tables_order (listed s) (λ i. get_or s.positions i 0) (omega (arith, listed_length, s.some)) (omega (arith, listed_length, s.few)) there back

  pub position_low : (i : ℕ) → i < s.count → position (listed s) i ≡ get_or s.positions i 0
  position_low i h =
      position_is (listed s) (λ i. get_or s.positions i 0) (omega (arith, listed_length, s.some)) (omega (arith, listed_length, s.few)) there back i (
      omega (arith, listed_length))

  pub position_high : (i : ℕ) → s.count ≤ i → position (listed s) i ≡ s.count
  position_high i h = position_past (listed s) i (λ r l e. omega (arith, listed_length, (there r l).0)) ∙ listed_length
