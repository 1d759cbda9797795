-- When two forms that stand in strips are the same.
use Rattle.std.specs.Prelude.{◌≡◌, ℕ, ◌<◌, List}
use Rattle.elimination.specs.Rows.{Rows}
use Rattle.strip.specs.Row.{Row}

-- two groups of strips begin with the same rows
abbrev pub RowsAlike : {S : Type 0} → (S → Row) → List S → List S → ℕ → Type 0
RowsAlike code a b count = (k : ℕ) → k < count → Rows code a 0 k ≡ Rows code b 0 k
