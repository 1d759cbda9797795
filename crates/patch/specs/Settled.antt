-- The settled form of a patch: an order of its records, and five conditions. Assumes nothing.
use Rattle.std.specs.Prelude.{◌≡◌, ℕ, ◌^◌, ◌<◌, ◌≤◌, ◌≢◌, ◌⊎◌, List, length}
use Rattle.patch.specs.Records.{Record, filler, cell, off, on, outlet, unmarked, unclean, records, nth, reads, cells_of}
use Rattle.patch.specs.Faults.{position, Patch}
use Rattle.patch.specs.Paths.{target, rule, Among}

-- the rules of two patches agree at every setting
abbrev pub SameRule : (ℕ → ℕ → ℕ) → (ℕ → ℕ → ℕ) → List ℕ → List ℕ → List ℕ → Type 0
SameRule plus times order bytes others =
    (setting : ℕ) → setting < 2 ^ length order → rule plus times order bytes setting ≡ rule plus times order others setting

-- no filler, no off arc, no arc of code 0
abbrev pub Plain : Record → Type 0
Plain filler = ⊥
Plain (cell i) = Unit
Plain (off f t c) = ⊥
Plain (on f t c) = c ≢ 0
Plain (outlet t c) = c ≢ 0
Plain unmarked = ⊥
Plain unclean = ⊥

-- cell records, then on arcs by cell and target, then outlet arcs by target
abbrev pub rank : Record → ℕ
rank filler = 0
rank (cell i) = 0
rank (off f t c) = 1
rank (on f t c) = 1
rank (outlet t c) = 2
rank unmarked = 0
rank unclean = 0

abbrev pub source : Record → ℕ
source filler = 0
source (cell i) = 0
source (off f t c) = f
source (on f t c) = f
source (outlet t c) = 0
source unmarked = 0
source unclean = 0

abbrev pub Precedes : Record → Record → Type 0
Precedes r s = (rank r < rank s) ⊎ ((rank r ≡ rank s) × ((source r < source s) ⊎ ((source r ≡ source s) × (target r ≤ target s))))

-- the lowest target of a cell's on arcs
pub record Head (rs : List Record) (j h : ℕ) : Type 0 where
  pub arc : (c : ℕ) × Among (on j h c) rs
  pub lowest : (t c : ℕ) → Among (on j t c) rs → h ≤ t

-- A list of records keeps the order and the first four conditions.
pub record Kept (order : List ℕ) (rs : List Record) : Type 0 where
  pub ordered : (j k : ℕ) → j < k → k < length rs → Precedes (nth rs j) (nth rs k)
  -- first: no filler, no off arc, no arc of code 0, and no two arcs with the same ends
  pub plain : (r : Record) → Among r rs → Plain r
  pub one_arc : (j k f t c d : ℕ) → nth rs j ≡ on f t c → nth rs k ≡ on f t d → j ≡ k
  pub one_outlet : (j k t c d : ℕ) → nth rs j ≡ outlet t c → nth rs k ≡ outlet t d → j ≡ k
  -- second: rising cell numbers never go to a later input
  pub never_later : (i j : ℕ) → 0 < i → i < j → j ≤ cells_of rs → position order (reads rs j) ≤ position order (reads rs i)
  -- third: each cell has an on arc, and the code at its head, the lowest target, is 1
  pub headed : (j : ℕ) → 0 < j → j ≤ cells_of rs → (h : ℕ) × Head rs j h
  pub head_one : (j h c : ℕ) → Head rs j h → Among (on j h c) rs → c ≡ 1
  -- fourth: among the cells of one input heads rise, and no cell has an arc to the head of another
  pub heads_rise : (i j h g : ℕ) → i < j → reads rs i ≡ reads rs j → Head rs i h → Head rs j g → h < g
  pub heads_clear : (i j h c : ℕ) → i ≢ j → reads rs i ≡ reads rs j → Head rs j h → ¬ Among (on i h c) rs

-- A settled patch.
pub record Settled (q : ℕ) (plus times : ℕ → ℕ → ℕ) (order bytes : List ℕ) : Type 0 where
  pub patch : Patch order q bytes
  pub kept : Kept order (records bytes)
  -- fifth: no patch with the same rule has fewer cells
  pub smallest : (others : List ℕ) → Patch order q others → SameRule plus times order bytes others → cells_of (records bytes) ≤ cells_of (records others)
