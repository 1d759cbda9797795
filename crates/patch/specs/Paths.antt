-- The rule of a patch, by its paths. A path is a list of record numbers: arcs are told apart by their record. Assumes nothing.
use Rattle.std.specs.Prelude.{◌≡◌, ℕ, zero, suc, ◌/◌, ◌%◌, ◌^◌, Bool, true, false, cond, List, [], ◌∷◌, ◌++◌, map, length, ◌==◌}
use mathlib.Core.List.{Memᴰ}
use Rattle.linear.specs.Sums.{fold}
use Rattle.patch.specs.Records.{Record, filler, cell, off, on, outlet, unmarked, unclean, records, reads, nth}

-- A setting as a number: bit i of it is input i.
abbrev pub bit : ℕ → ℕ → Bool
bit setting i = (setting / 2 ^ i) % 2 == 1

-- Open arcs from cell f to cell 0, each starting where the one before ended, at inputs x.
pub data Walk (rs : List Record) (x : ℕ → Bool) : ℕ → List ℕ → Type 0 where
  arrived : Walk rs x zero []
  by_off : {k f t c : ℕ} {p : List ℕ} → nth rs k ≡ off f t c → x (reads rs f) ≡ false → Walk rs x t p → Walk rs x f (k ∷ p)
  by_on : {k f t c : ℕ} {p : List ℕ} → nth rs k ≡ on f t c → x (reads rs f) ≡ true → Walk rs x t p → Walk rs x f (k ∷ p)

-- A path is an outlet arc followed by arcs to cell 0, all open.
pub data IsPath (rs : List Record) (x : ℕ → Bool) : List ℕ → Type 0 where
  from_outlet : {k t c : ℕ} {p : List ℕ} → nth rs k ≡ outlet t c → Walk rs x t p → IsPath rs x (k ∷ p)

-- The same as a list. An arc leads later, so after the outlet arc there are at most as many as inputs.
abbrev pub target : Record → ℕ
target filler = 0
target (cell i) = 0
target (off f t c) = t
target (on f t c) = t
target (outlet t c) = t
target unmarked = 0
target unclean = 0

abbrev pub code : Record → ℕ
code filler = 0
code (cell i) = 0
code (off f t c) = c
code (on f t c) = c
code (outlet t c) = c
code unmarked = 0
code unclean = 0

-- is it an off arc from cell f, an on arc from cell f, an outlet arc?
abbrev pub off_from : ℕ → Record → Bool
off_from f filler = false
off_from f (cell i) = false
off_from f (off g t c) = f == g
off_from f (on g t c) = false
off_from f (outlet t c) = false
off_from f unmarked = false
off_from f unclean = false

abbrev pub on_from : ℕ → Record → Bool
on_from f filler = false
on_from f (cell i) = false
on_from f (off g t c) = false
on_from f (on g t c) = f == g
on_from f (outlet t c) = false
on_from f unmarked = false
on_from f unclean = false

-- an on arc is open where the cell's input is 1, an off arc where it is 0
abbrev pub opens : List Record → (ℕ → Bool) → ℕ → Record → Bool
opens rs x f r = cond (x (reads rs f)) (on_from f r) (off_from f r)

abbrev pub starts : Record → Bool
starts filler = false
starts (cell i) = false
starts (off f t c) = false
starts (on f t c) = false
starts (outlet t c) = true
starts unmarked = false
starts unclean = false

-- the walks from cell f of at most d arcs
unfoldable pub walks : List Record → (ℕ → Bool) → ℕ → ℕ → List (List ℕ)
walks rs x d zero = [] ∷ []
walks rs x zero (suc f) = []
walks rs x (suc d) (suc f) =
    fold [] ◌++◌ (length rs) (λ k. cond (opens rs x (suc f) (nth rs k)) (map (◌∷◌ k) (walks rs x d (target (nth rs k)))) [])

unfoldable pub paths : List Record → ℕ → (ℕ → Bool) → List (List ℕ)
paths rs n x = fold [] ◌++◌ (length rs) (λ k. cond (starts (nth rs k)) (map (◌∷◌ k) (walks rs x n (target (nth rs k)))) [])

-- the product of a path's codes, and the sum over paths
abbrev pub product : (ℕ → ℕ → ℕ) → List Record → List ℕ → ℕ
product times rs [] = 1
product times rs (k ∷ p) = times (code (nth rs k)) (product times rs p)

abbrev pub total : (ℕ → ℕ → ℕ) → List ℕ → ℕ
total plus [] = 0
total plus (w ∷ ws) = plus w (total plus ws)

abbrev pub path_sum : (ℕ → ℕ → ℕ) → (ℕ → ℕ → ℕ) → List Record → ℕ → (ℕ → Bool) → ℕ
path_sum plus times rs n x = total plus (map (product times rs) (paths rs n x))

-- THE RULE of some bytes at a setting, in a scan order and by a scale's sum and product
abbrev pub rule : (ℕ → ℕ → ℕ) → (ℕ → ℕ → ℕ) → List ℕ → List ℕ → ℕ → ℕ
rule plus times order bytes setting = path_sum plus times (records bytes) (length order) (bit setting)

-- p stands in a list, and no member of a list stands in it twice
abbrev pub Among : {A : Type 0} → A → List A → Type 0
Among p ps = Memᴰ p ps

abbrev pub Distinct : List (List ℕ) → Type 0
Distinct [] = Unit
Distinct (p ∷ ps) = (¬ Among p ps) × Distinct ps
