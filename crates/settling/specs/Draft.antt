-- The diagram that stands in working memory: its rows off from strip 0 on, its rows dif from strip 128 on, the positions of its places
-- in a list, and its outlet in a strip apart.
use Rattle.std.specs.Prelude.{◌≡◌, ℕ, ◌+◌, ◌<◌, ◌≤◌, List, slice_index}
use Rattle.diagram.specs.Diagram.{Diagram}
use Rattle.scale.specs.Model.{ScaleModel}
use Rattle.elimination.specs.Lift.{Element, vec, Grid, Inside}
use Rattle.strip.specs.Row.{Row}
use Rattle.elimination.specs.Rows.{Rows, Echelon}

-- how many positions there are: that of the steady place
abbrev pub steps : List ℕ → ℕ → ℕ
steps pos m = slice_index pos m

-- m cells, and the steady place m
abbrev pub drawn : {K : Type 0} → ℕ → List ℕ → (ℕ → ℕ → K) → (ℕ → ℕ → K) → (ℕ → K) → Diagram K
drawn m pos off dif out = record { places = m + 1; pos = λ t. slice_index pos t; off = off; dif = dif; out = out }

abbrev pub drafted : (M : ScaleModel) → {S : Type 0} → (S → Row) → List S → List ℕ → ℕ → Row → Diagram (Element M)
drafted M code work pos m out = drawn m pos (Grid M code work 0) (Grid M code work 128) (vec M out)

-- every strip from 512 on holds what it held
abbrev pub Beyond : {S : Type 0} → (S → Row) → List S → List S → Type 0
Beyond code work work' = (b k : ℕ) → 512 ≤ b + k → Rows code work' b k ≡ Rows code work b k

-- earlier positions come first, and the steady place comes last, with the number of positions for its own
pub record Ordered (m : ℕ) (pos : List ℕ) : Type 0 where
  pub cells : (t : ℕ) → t < m → slice_index pos t < slice_index pos m
  pub rising : (t u : ℕ) → t ≤ u → u ≤ m → slice_index pos t ≤ slice_index pos u

-- the rows of the places hold nothing past the last place
pub record Bounded {S : Type 0} (code : S → Row) (work : List S) (m : ℕ) : Type 0 where
  pub off : Inside (m + 1) (Rows code work 0)
  pub dif : Inside (m + 1) (Rows code work 128)

-- the same while it is trimmed, with a table of rows by pivot from strip 256 on
pub record Tables {S : Type 0} (code : S → Row) (work : List S) (m : ℕ) : Type 0 where
  pub shape : Echelon (m + 1) (Rows code work 256)
  pub row : Inside (m + 1) (Rows code work 256)
  pub off : Inside (m + 1) (Rows code work 0)
  pub dif : Inside (m + 1) (Rows code work 128)

-- the places h .. e - 1 have h's position, and those from e on have later ones
pub record Block (m : ℕ) (pos : List ℕ) (h e : ℕ) : Type 0 where
  pub some : h < e
  pub ends : e ≤ m
  pub same : (v : ℕ) → h ≤ v → v < e → slice_index pos v ≡ slice_index pos h
  pub later : (v : ℕ) → e ≤ v → v ≤ m → slice_index pos h < slice_index pos v

-- the places a .. e - 1 are those of one position, where those before e have earlier positions than e
pub record Span (pos : List ℕ) (a e : ℕ) : Type 0 where
  pub some : a < e
  pub same : (v : ℕ) → a ≤ v → v < e → slice_index pos v ≡ slice_index pos a
  pub earlier : (v : ℕ) → v < a → slice_index pos v < slice_index pos a
