-- What the check of one record answers. Assumes nothing.
use Rattle.std.specs.Prelude.{◌≡◌, ℕ, ◌<◌, ◌≤◌, cond, ◌≢◌, List, length, Ok, Err, Result, ◌==◌, slice_index}
use Rattle.patch.specs.declared.cells.Cells.{Cells}
use Rattle.patch.specs.declared.record.Record.{Record as Entry}
use Rattle.patch.specs.declared.record.Record.TheVariants.{Filler, Cell, Off, On, Outlet}
use Rattle.patch.specs.declared.refusal.Refusal.{Refusal}
use Rattle.patch.specs.Records.{Record, filler, cell, off, on, outlet, read, input}
use Rattle.patch.specs.Faults.{fault}
use Rattle.patch.specs.Refusals.{number, place}

-- a record as the program has it
abbrev pub meant : Entry → Record
meant Filler = filler
meant (Cell i) = cell i
meant (Off f t c) = off f t c
meant (On f t c) = on f t c
meant (Outlet t c) = outlet t c

-- the program's cells stand for the inputs of the cells declared so far, cell 1 first; an arc can name no cell past 255
pub record Holds (s : Cells) (cells : List ℕ) : Type 0 where
  pub counts : s.count ≡ length cells
  pub keeps : (f : ℕ) → 0 < f → f ≤ length cells → f < 256 → slice_index s.inputs f ≡ input cells f
  pub long : length s.inputs ≡ 256

-- an answer about a record at place k: what it says, if its fault is 0, and else the refusal of that number at that place
pub data Says (r : Record) (k : ℕ) : Result Entry Refusal → ℕ → Type 0 where
  fine : (e : Entry) → meant e ≡ r → Says r k (Ok e) 0
  faulty : (e : Refusal) → place e ≡ k → number e ≢ 0 → Says r k (Err e) (number e)

abbrev pub four : List ℕ → Record
four xs = read (slice_index xs 0) (slice_index xs 1) (slice_index xs 2) (slice_index xs 3)

-- the answer about four bytes, for any list of cells that stand before them
pub record Judges (order : List ℕ) (L q : ℕ) (s : Cells) (k : ℕ) (xs : List ℕ) (r : Result Entry Refusal) : Type 0 where
  pub says : (cells : List ℕ) → Holds s cells → Says (four xs) k r (fault order L q cells (four xs))

-- what four bytes without a fault say, to the program
abbrev pub told : List ℕ → Entry
told xs =
    cond (length xs == 4) (
    cond (slice_index xs 0 == 1) (Cell (slice_index xs 1)) (
    cond (slice_index xs 0 == 2) (Off (slice_index xs 1) (slice_index xs 2) (slice_index xs 3)) (
    cond (slice_index xs 0 == 3) (On (slice_index xs 1) (slice_index xs 2) (slice_index xs 3)) (cond (slice_index xs 0 == 4) (Outlet (slice_index xs 2) (slice_index xs 3)) Filler)))) Filler
