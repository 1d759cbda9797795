-- Rows in working memory, a table of rows by pivot, and what elimination makes of it.
use Rattle.std.specs.Prelude.{◌≡◌, ℕ, zero, suc, ◌+◌, ◌<◌, ◌≤◌, List, map, ◌≢◌, slice_index_or}
use Rattle.strip.specs.Row.{Row, zeros, First}
use Rattle.elimination.specs.Arithmetic.{Arithmetic}

-- f + c × g
abbrev pub added : Arithmetic → Row → ℕ → Row → Row
added F f c g p = F.plus (f p) (F.times c (g p))

-- the rows that the strips of a list hold, and none past its end: a table of rows is such a list
unfoldable pub rows_in : {S : Type 0} → (S → Row) → List S → ℕ → Row
rows_in code strips h = slice_index_or (map code strips) h zeros

-- the same, from a place of the list on: the rows of a part of working memory
unfoldable pub Rows : {S : Type 0} → (S → Row) → List S → ℕ → ℕ → Row
Rows code work base h = rows_in code work (base + h)

-- g is f less a multiple c of r, taken so that g holds 0 at h if r does not
pub record Cleared (F : Arithmetic) (f : Row) (r : Row) (h : ℕ) (c : ℕ) (g : Row) : Type 0 where
  pub factor : c < F.q
  pub is : (p : ℕ) → g p ≡ F.plus (f p) (F.times (F.neg c) (r p))
  pub back : (p : ℕ) → f p ≡ F.plus (g p) (F.times c (r p))
  pub gone : (r h ≢ 0) → g h ≡ 0
  pub kept : (p : ℕ) → r p ≡ 0 → g p ≡ f p
  pub same : f h ≡ 0 → (p : ℕ) → g p ≡ f p

-- the sum of the first n terms
unfoldable pub sum : Arithmetic → ℕ → (ℕ → ℕ) → ℕ
sum F zero t = 0
sum F (suc n) t = F.plus (sum F n t) (t n)

-- the combination of the first n rows with these coefficients
abbrev pub combine : Arithmetic → ℕ → (ℕ → ℕ) → (ℕ → Row) → Row
combine F n a R p = sum F n (λ h. F.times (a h) (R h p))

-- a table of rows by pivot: each row's first filled place is its own, and a row that holds 0 there is blank
pub record Echelon (len : ℕ) (R : ℕ → Row) : Type 0 where
  pub low : (h p : ℕ) → h < len → p < h → R h p ≡ 0
  pub blank : (h p : ℕ) → h < len → R h h ≡ 0 → R h p ≡ 0

-- f is g and a combination of the rows
abbrev pub Balance : Arithmetic → ℕ → (ℕ → ℕ) → (ℕ → Row) → Row → Row → Type 0
Balance F len a R f g = (p : ℕ) → f p ≡ F.plus (g p) (combine F len a R p)

-- f needs no more reduction: it is blank, or its first filled place has no row
abbrev pub Reduced : ℕ → (ℕ → Row) → Row → Type 0
Reduced len R f = (h : ℕ) → First len f h → h < len → R h h ≡ 0

pub record InSpan (F : Arithmetic) (len : ℕ) (R : ℕ → Row) (f : Row) : Type 0 where
  pub coef : ℕ → ℕ
  pub is : (p : ℕ) → f p ≡ combine F len coef R p

-- f is g and a combination of the rows
pub record LessSpan (F : Arithmetic) (len : ℕ) (R : ℕ → Row) (f g : Row) : Type 0 where
  pub coef : ℕ → ℕ
  pub balance : Balance F len coef R f g

-- the rows R' span what R and v do
pub record Grows (F : Arithmetic) (len : ℕ) (R : ℕ → Row) (v : Row) (R' : ℕ → Row) : Type 0 where
  pub more : (c : ℕ) (f : Row) → InSpan F len R f → InSpan F len R' (added F f c v)
  pub no_more : (f : Row) → InSpan F len R' f → (c : ℕ) × (g : Row) × InSpan F len R g × ((p : ℕ) → f p ≡ added F g c v p)

-- outside of a table nothing changes
pub record Outside {S : Type 0} (code : S → Row) (work : List S) (base len : ℕ) (work' : List S) : Type 0 where
  pub before : (b k : ℕ) → b + k < base → Rows code work' b k ≡ Rows code work b k
  pub after : (b k : ℕ) → base + len ≤ b + k → Rows code work' b k ≡ Rows code work b k

-- the rows R' are R with f for the row h
pub record RowSet (R : ℕ → Row) (h : ℕ) (f : Row) (R' : ℕ → Row) : Type 0 where
  pub here : R' h ≡ f
  pub rest : (k : ℕ) → (k ≢ h) → R' k ≡ R k

-- c × f
abbrev pub scaled : Arithmetic → ℕ → Row → Row
scaled F c f p = F.times c (f p)

-- the rows below n are cleared at h, by the row there
pub record Swept (F : Arithmetic) (n h : ℕ) (R R' : ℕ → Row) : Type 0 where
  pub rest : (k : ℕ) → n ≤ k → R' k ≡ R k
  pub each : (k : ℕ) → k < n → (c : ℕ) × Cleared F (R k) (R h) h c (R' k)

pub record SameSpan (F : Arithmetic) (len : ℕ) (R R' : ℕ → Row) : Type 0 where
  pub to : (f : Row) → InSpan F len R f → InSpan F len R' f
  pub from : (f : Row) → InSpan F len R' f → InSpan F len R f

-- below n, each pivot is 1 and alone in its column
pub record Tidy (n len : ℕ) (R : ℕ → Row) : Type 0 where
  pub heads : (h : ℕ) → h < n → (R h h ≢ 0) → R h h ≡ 1
  pub alone : (h k : ℕ) → h < n → k < len → (k ≢ h) → (R h h ≢ 0) → R k h ≡ 0

-- the first m rows A span what the first n rows R do
pub record SpansAs (F : Arithmetic) (m : ℕ) (A : ℕ → Row) (n : ℕ) (R : ℕ → Row) : Type 0 where
  pub to : (f : Row) → InSpan F m A f → InSpan F n R f
  pub from : (f : Row) → InSpan F n R f → InSpan F m A f
