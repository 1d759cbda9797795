-- The faults 11 to 18 of a patch, and what a patch is. Assumes nothing.
use Rattle.std.specs.Prelude.{◌≡◌, ℕ, suc, ◌+◌, ◌%◌, ◌<◌, ◌≤◌, Bool, cond, not, ◌||◌, ◌≢◌, ◌⊎◌, List, [], ◌∷◌, length, take, ◌==◌, nat_le, nat_lt, slice_index}
use Rattle.patch.specs.Records.{Record, filler, cell, off, on, outlet, unmarked, unclean, records, declare, declared, input, nth}

-- the place of an input in a list of inputs, or its length
abbrev pub position : List ℕ → ℕ → ℕ
position [] i = 0
position (x ∷ xs) i = cond (x == i) 0 (suc (position xs i))

-- a scan order holds each input below its length, and the places and the inputs undo each other
pub record Order (order : List ℕ) : Type 0 where
  pub some : 0 < length order
  pub few : length order ≤ 24
  pub listed : (p : ℕ) → p < length order → slice_index order p < length order
  pub placed : (i : ℕ) → i < length order → position order i < length order
  pub there : (i : ℕ) → i < length order → slice_index order (position order i) ≡ i
  pub back : (p : ℕ) → p < length order → position order (slice_index order p) ≡ p

-- an arc from cell f leads later: to cell 0, or to a cell whose input comes later in the scan order
abbrev pub later : List ℕ → List ℕ → ℕ → ℕ → Bool
later order cells f t = t == 0 || nat_lt (position order (input cells f)) (position order (input cells t))

-- What is wrong with a record, when the cells before it read `cells`, for L places and q codes. 0: nothing.
abbrev pub arc_fault : List ℕ → ℕ → List ℕ → ℕ → ℕ → ℕ → ℕ
arc_fault order q cells f t c =
    cond (f == 0 || nat_lt (length cells) f || nat_lt (length cells) t) 16 (cond (not (later order cells f t)) 17 (cond (nat_le q c) 18 0))

abbrev pub fault : List ℕ → ℕ → ℕ → List ℕ → Record → ℕ
fault order L q cells filler = 0
fault order L q cells (cell i) = cond (nat_le (length order) i) 14 (cond (nat_le L (length cells + 1)) 15 0)
fault order L q cells (off f t c) = arc_fault order q cells f t c
fault order L q cells (on f t c) = arc_fault order q cells f t c
fault order L q cells (outlet t c) = cond (nat_lt (length cells) t) 16 (cond (nat_le q c) 18 0)
fault order L q cells unmarked = 12
fault order L q cells unclean = 13

-- the answer of a check: a refusal has its number, and the faulty record counted from 0
pub data Verdict : Type 0 where
  passed : Verdict
  refused : ℕ → ℕ → Verdict

-- record by record; the first faulty one stops the check
abbrev pub check_from : List ℕ → ℕ → ℕ → ℕ → List ℕ → List Record → Verdict
check_from order L q k cells [] = passed
check_from order L q k cells (r ∷ rs) =
    cond (fault order L q cells r == 0) (check_from order L q (k + 1) (declare cells r) rs) (refused (fault order L q cells r) k)

abbrev pub check_patch : List ℕ → ℕ → ℕ → List ℕ → Verdict
check_patch order L q bytes = cond (length bytes % 4 == 0) (check_from order L q 0 [] (records bytes)) (refused 11 0)

-- What bytes hold: numbers below 256.
abbrev pub Bytes : List ℕ → Type 0
Bytes bytes = (i : ℕ) → i < length bytes → slice_index bytes i < 256

-- A patch: bytes without a fault 11 to 14 or 16 to 18; neither the cells nor the bytes are limited in number.
abbrev pub Later : List ℕ → List ℕ → ℕ → ℕ → Type 0
Later order cells f t = (t ≡ 0) ⊎ (position order (input cells f) < position order (input cells t))

pub record Arc (order : List ℕ) (q : ℕ) (cells : List ℕ) (f t c : ℕ) : Type 0 where
  pub from_cell : 0 < f
  pub from_known : f ≤ length cells
  pub to_known : t ≤ length cells
  pub leads_later : Later order cells f t
  pub code : c < q

abbrev pub Fine : List ℕ → ℕ → List ℕ → Record → Type 0
Fine order q cells filler = Unit
Fine order q cells (cell i) = i < length order
Fine order q cells (off f t c) = Arc order q cells f t c
Fine order q cells (on f t c) = Arc order q cells f t c
Fine order q cells (outlet t c) = (t ≤ length cells) × (c < q)
Fine order q cells unmarked = ⊥
Fine order q cells unclean = ⊥

abbrev pub AllFine : List ℕ → ℕ → List ℕ → List Record → Type 0
AllFine order q cells [] = Unit
AllFine order q cells (r ∷ rs) = Fine order q cells r × AllFine order q (declare cells r) rs

pub record Patch (order : List ℕ) (q : ℕ) (bytes : List ℕ) : Type 0 where
  pub held : Bytes bytes
  pub fours : length bytes % 4 ≡ 0
  pub fine : AllFine order q [] (records bytes)

-- record number k is the first faulty one, with that fault
pub record First (order : List ℕ) (L q : ℕ) (rs : List Record) (number k : ℕ) : Type 0 where
  pub inside : k < length rs
  pub is : fault order L q (declared [] (take k rs)) (nth rs k) ≡ number
  pub faulty : number ≢ 0
  pub before : (j : ℕ) → j < k → fault order L q (declared [] (take j rs)) (nth rs j) ≡ 0
