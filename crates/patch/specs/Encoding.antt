-- The encoding of a diagram of k cells without off arcs: inp has the inputs that the cells read, row j the codes of cell j's on arcs, by target, and out those of the outlet arcs. Assumes nothing.
use Rattle.std.specs.Prelude.{◌≡◌, ℕ, suc, ◌<◌, ◌≤◌, Bool, cond, ◌≢◌, List, [], ◌∷◌, ◌++◌, length, ◌==◌}
use Rattle.linear.specs.Sums.{fold}
use Rattle.patch.specs.Records.{Record, filler, cell, off, on, outlet, unmarked, unclean}
use Rattle.patch.specs.Faults.{position}

-- a record as bytes, and many
abbrev pub four : Record → List ℕ
four filler = 0 ∷ 0 ∷ 0 ∷ 0 ∷ []
four (cell i) = 1 ∷ i ∷ 0 ∷ 0 ∷ []
four (off f t c) = 2 ∷ f ∷ t ∷ c ∷ []
four (on f t c) = 3 ∷ f ∷ t ∷ c ∷ []
four (outlet t c) = 4 ∷ 0 ∷ t ∷ c ∷ []
four unmarked = []
four unclean = []

abbrev pub written : List Record → List ℕ
written [] = []
written (r ∷ rs) = four r ++ written rs

-- an arc of code 0 is left out
abbrev pub unless_zero : ℕ → Record → List Record
unless_zero c r = cond (c == 0) [] (r ∷ [])

-- cell records, then on arcs by cell and target, then outlet arcs by target
module _ (k : ℕ) (inp : ℕ → ℕ) (row : ℕ → ℕ → ℕ) (out : ℕ → ℕ) where
  abbrev pub cell_records : List Record
  cell_records = fold [] ◌++◌ k (λ j. cell (inp (suc j)) ∷ [])

  abbrev pub on_records : List Record
  on_records = fold [] ◌++◌ k (λ j. fold [] ◌++◌ (suc j) (λ t. unless_zero (row (suc j) t) (on (suc j) t (row (suc j) t))))

  abbrev pub outlet_records : List Record
  outlet_records = fold [] ◌++◌ (suc k) (λ t. unless_zero (out t) (outlet t (out t)))

  unfoldable pub diagram_records : List Record
  diagram_records = cell_records ++ (on_records ++ outlet_records)

  abbrev pub encode : List ℕ
  encode = written diagram_records

-- A diagram in echelon form, in numbers: the cells 1 to k read inp, never a later input than the cell before, and have codes at cell 0 and at cells of later inputs;
-- the rows of the cells of one input are reduced: head j is the lowest target of cell j and has the code 1, heads rise, and no row has a code at the head of another.
pub record EchelonNumbers (order : List ℕ) (q k : ℕ) (inp : ℕ → ℕ) (row : ℕ → ℕ → ℕ) (out head : ℕ → ℕ) : Type 0 where
  pub input : (j : ℕ) → 0 < j → j ≤ k → inp j < length order
  pub code : (j t : ℕ) → 0 < j → j ≤ k → t < j → row j t < q
  pub out_code : (t : ℕ) → t ≤ k → out t < q
  pub later : (j t : ℕ) → j ≤ k → 0 < t → t < j → row j t ≢ 0 → position order (inp j) < position order (inp t)
  pub never_later : (i j : ℕ) → 0 < i → i < j → j ≤ k → position order (inp j) ≤ position order (inp i)
  pub head_below : (j : ℕ) → 0 < j → j ≤ k → head j < j
  pub head_one : (j : ℕ) → 0 < j → j ≤ k → row j (head j) ≡ 1
  pub before_head : (j t : ℕ) → 0 < j → j ≤ k → t < head j → row j t ≡ 0
  pub heads_rise : (i j : ℕ) → 0 < i → i < j → j ≤ k → inp i ≡ inp j → head i < head j
  pub heads_clear : (i j : ℕ) → 0 < i → i ≤ k → 0 < j → j ≤ k → i ≢ j → inp i ≡ inp j → head j < i → row i (head j) ≡ 0

-- V gives the values of its cells at inputs x: without off arcs a cell has 0 where its input is 0
pub record RowValues (plus times : ℕ → ℕ → ℕ) (k : ℕ) (inp : ℕ → ℕ) (row : ℕ → ℕ → ℕ) (x : ℕ → Bool) (V : ℕ → ℕ) : Type 0 where
  pub steady : V 0 ≡ 1
  pub cell : (j : ℕ) → 0 < j → j ≤ k → V j ≡ cond (x (inp j)) (fold 0 plus j (λ t. times (row j t) (V t))) 0
