-- A form that stands in strips, in numbers: its outlet stands at base, and the row of cell j at base + j; cell j reads the j-th input.
use Rattle.std.specs.Prelude.{ℕ, suc, ◌-◌, cond, List, [], ◌∷◌, ◌++◌, ◌==◌, slice_index}
use Rattle.elimination.specs.Rows.{Rows}
use Rattle.linear.specs.Sums.{fold}
use Rattle.patch.specs.Encoding.{encode}
use Rattle.strip.specs.Row.{Row}

-- the input of cell j
abbrev pub cell_input : List ℕ → ℕ → ℕ
cell_input inputs j = slice_index inputs (j - 1)

-- its bytes: the encoding of the diagram that it means
abbrev pub form_bytes : {S : Type 0} → (S → Row) → List S → ℕ → ℕ → List ℕ → List ℕ
form_bytes code strips base count inputs = encode count (cell_input inputs) (λ j t. Rows code strips base j t) (λ t. Rows code strips base 0 t)

-- The same part by part: a cell record for each of the first inputs;
abbrev pub cell_bytes : List ℕ → ℕ → List ℕ
cell_bytes inputs count = fold [] ◌++◌ count (λ k. 1 ∷ slice_index inputs k ∷ 0 ∷ 0 ∷ [])

-- an arc for each of the first places of a row that does not hold 0: mark, from, target, code;
abbrev pub arc_bytes : ℕ → ℕ → Row → ℕ → List ℕ
arc_bytes mark from row places = fold [] ◌++◌ places (λ t. cond (row t == 0) [] (mark ∷ from ∷ t ∷ row t ∷ []))

-- and the on arcs of the cells 1 to count, where row j is that of cell j.
abbrev pub row_bytes : (ℕ → Row) → ℕ → List ℕ
row_bytes rows count = fold [] ◌++◌ count (λ j. arc_bytes 3 (suc j) (rows (suc j)) (suc j))
