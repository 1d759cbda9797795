-- The plan of a draft: a place for each cell, those of earlier positions first.
use Rattle.std.specs.Prelude.{◌≡◌, ℕ, zero, suc, ◌+◌, ◌<◌, ◌≤◌, cond, ◌⊎◌, List, ◌==◌, nat_lt, slice_index, slice_index_or}
use Rattle.settling.specs.declared.draft.Places.{Places}

-- The cells 0 .. k - 1 read the positions ps; m of them have one of the positions below n. Those have the places 0 .. m - 1, in the order of their positions;
-- the steady place is m, and its position counts as n.
pub record Placed (ps : List ℕ) (k n m : ℕ) (pos place : List ℕ) : Type 0 where
  pub few : m ≤ k
  pub all : ((i : ℕ) → i < k → slice_index ps i < n) → m ≡ k
  pub inside : (i : ℕ) → i < k → slice_index ps i < n → slice_index place i < m
  pub at : (i : ℕ) → i < k → slice_index ps i < n → slice_index pos (slice_index place i) ≡ slice_index ps i
  pub apart : (i j : ℕ) → i < k → j < k → slice_index ps i < n → slice_index ps j < n → slice_index place i ≡ slice_index place j → i ≡ j
  pub bound : (i : ℕ) → slice_index place i ≤ m
  pub steady : slice_index_or pos m 0 ≡ n
  pub cells : (t : ℕ) → t < m → slice_index pos t < n
  pub rising : (t u : ℕ) → t ≤ u → u ≤ m → slice_index pos t ≤ slice_index pos u
  pub onto : (t : ℕ) → t < m → (i : ℕ) × (i < k) × (slice_index ps i < n) × (slice_index place i ≡ t)

-- the same, of the places of a draft
abbrev pub PlacedBy : List ℕ → ℕ → ℕ → Places → List ℕ → Type 0
PlacedBy ps k n places place = Placed ps k n places.cells places.pos place

-- The same while it is made: the cells of positions below p are placed, and the first c of the cells, if their position is p.
unfoldable pub earlier : List ℕ → ℕ → ℕ → ℕ
earlier ps p zero = 0
earlier ps p (suc k) = earlier ps p k + cond (nat_lt (slice_index ps k) p) 1 0

unfoldable pub alike : List ℕ → ℕ → ℕ → ℕ
alike ps p zero = 0
alike ps p (suc k) = alike ps p k + cond (slice_index ps k == p) 1 0

abbrev pub Done : List ℕ → ℕ → ℕ → ℕ → Type 0
Done ps p c i = (slice_index ps i < p) ⊎ ((slice_index ps i ≡ p) × (i < c))

pub record Placing (ps : List ℕ) (k n p c m : ℕ) (pos place : List ℕ) : Type 0 where
  pub number : m ≡ earlier ps p k + alike ps p c
  pub inside : (i : ℕ) → i < k → Done ps p c i → slice_index place i < m
  pub at : (i : ℕ) → i < k → Done ps p c i → slice_index pos (slice_index place i) ≡ slice_index ps i
  pub apart : (i j : ℕ) → i < k → j < k → Done ps p c i → Done ps p c j → slice_index place i ≡ slice_index place j → i ≡ j
  pub bound : (i : ℕ) → slice_index place i ≤ m
  pub rising : (t u : ℕ) → t ≤ u → u < m → slice_index pos t ≤ slice_index pos u
  pub last : (t : ℕ) → t < m → slice_index pos t ≤ p
  pub fresh : c ≡ 0 → (t : ℕ) → t < m → slice_index pos t < p
  pub rest : (t : ℕ) → m ≤ t → t < 128 → slice_index pos t ≡ n
  pub onto : (t : ℕ) → t < m → (i : ℕ) × (i < k) × Done ps p c i × (slice_index place i ≡ t)

abbrev pub PlacingBy : List ℕ → ℕ → ℕ → ℕ → ℕ → Places → List ℕ → Type 0
PlacingBy ps k n p c places place = Placing ps k n p c places.cells places.pos place
