-- Two tables that undo each other. Assumes nothing.
use Rattle.std.specs.Prelude.{◌≡◌, ℕ, ◌<◌, List, length, slice_index}

-- ys says at which place of xs, below n, a number stands
abbrev pub Undoes : ℕ → List ℕ → List ℕ → Type 0
Undoes n xs ys = (k : ℕ) → k < n → (slice_index xs k < n) × (slice_index ys (slice_index xs k) ≡ k)

-- each number below the list's length stands in it once
abbrev pub EachOnce : List ℕ → Type 0
EachOnce xs =
    ((k : ℕ) → k < length xs → slice_index xs k < length xs) ×
    ((j k : ℕ) → j < length xs → k < length xs → slice_index xs j ≡ slice_index xs k → j ≡ k)
