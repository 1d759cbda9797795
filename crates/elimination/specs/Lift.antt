-- From codes, as numbers, to the elements of the scale's field: what the theory of diagrams speaks of.
use Rattle.std.specs.Prelude.{◌≡◌, ℕ, ◌+◌, ◌-◌, ◌<◌, ◌≤◌, ◌≢◌, ◌⊎◌, List}
use Rattle.std.proofs.Common.{arith}
use Rattle.linear.specs.Codes.{Code, codes, coded}
use Rattle.linear.specs.Field.{Field as Scalars}
use Rattle.linear.specs.Linear.{comb}
use Rattle.linear.specs.Sums.{sum}
use Rattle.scale.specs.Model.{ScaleModel}
use Rattle.strip.specs.Row.{Row}
use Rattle.elimination.specs.Rows.{Rows}

-- an element is a code of the scale
abbrev pub Element : ScaleModel → Type 0
Element M = Code M.q

-- the field of those elements; shut, so that `simp ring` finds its sums and products
unfoldable pub scalars : (M : ScaleModel) → Scalars (Element M)
scalars M = codes M.field

pub some_code : (M : ScaleModel) → 0 < M.q
some_code M = let h : 1 < M.q = M.field.two in omega arith

-- a number as an element: zero, if it is no code
unfoldable pub up : (M : ScaleModel) → ℕ → Element M
up M = coded (some_code M)

-- what a row holds, what rows hold, and what the strips of a list hold from a place of the list on
abbrev pub vec : (M : ScaleModel) → Row → ℕ → Element M
vec M r p = up M (r p)

abbrev pub elements : (M : ScaleModel) → (ℕ → Row) → ℕ → ℕ → Element M
elements M R h p = up M (R h p)

abbrev pub Grid : (M : ScaleModel) → {S : Type 0} → (S → Row) → List S → ℕ → ℕ → ℕ → Element M
Grid M code work base h p = up M (Rows code work base h p)

-- c[from] × row from + .. + c[to - 1] × row (to - 1)
abbrev pub part : (M : ScaleModel) → (ℕ → Element M) → (ℕ → ℕ → Element M) → ℕ → ℕ → ℕ → Element M
part M c R from to p = sum (scalars M) (to - from) (λ i. (scalars M).times (c (from + i)) (R (from + i) p))

-- the row g is f and such a part of the rows, with what r holds for coefficients
abbrev pub Gathered : (M : ScaleModel) → Row → (ℕ → ℕ → Element M) → ℕ → ℕ → Row → Row → Type 0
Gathered M r R from to f g = (p : ℕ) → up M (g p) ≡ (scalars M).plus (up M (f p)) (part M (vec M r) R from to p)

-- the rows below size hold nothing from place size on
abbrev pub Inside : ℕ → (ℕ → Row) → Type 0
Inside size R = (h p : ℕ) → h < size → size ≤ p → R h p ≡ 0

-- c holds nothing below k wherever v does not
abbrev pub Early : {K : Type 0} → Scalars K → ℕ → (ℕ → K) → (ℕ → K) → Type 0
Early F size v c = (k : ℕ) → k ≤ size → ((p : ℕ) → p < k → v p ≡ F.zero) → (j : ℕ) → j < k → c j ≡ F.zero

-- g is v and a combination of the rows before j
abbrev pub Fresh : {K : Type 0} → Scalars K → ℕ → (ℕ → ℕ → K) → (ℕ → K) → ℕ → (ℕ → K) → Type 0
Fresh {K = K} F size R v j g = (c : ℕ → K) × Early F size v c × ((i : ℕ) → j ≤ i → c i ≡ F.zero) × ((p : ℕ) → g p ≡ F.plus (v p) (comb F size c R p))

-- v went into a table of rows by pivot, and is the combination coef of the rows R' that the table has now: those that it had,
-- and at most one more at a place that had none
pub record Absorbed {K : Type 0} (F : Scalars K) (size : ℕ) (R : ℕ → ℕ → K) (v coef : ℕ → K) (R' : ℕ → ℕ → K) : Type 0 where
  pub balance : (p : ℕ) → v p ≡ comb F size coef R' p
  pub sparse : (j : ℕ) → j < size → R' j j ≡ F.zero → coef j ≡ F.zero
  pub past : (p : ℕ) → size ≤ p → coef p ≡ F.zero
  pub early : Early F size v coef
  pub still : (k : ℕ) → k ≤ size → ((p : ℕ) → p < k → v p ≡ F.zero) → (j p : ℕ) → j < k → R' j p ≡ R j p
  pub kept : (j p : ℕ) → j < size → R j j ≢ F.zero → R' j p ≡ R j p
  pub made : (j : ℕ) → j < size → ((p : ℕ) → R' j p ≡ R j p) ⊎ Fresh F size R v j (R' j)
