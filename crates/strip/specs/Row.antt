-- What a strip means: a row, the code that stands at each place.
use Rattle.std.specs.Prelude.{◌≡◌, ℕ, ◌<◌, ◌≤◌, ◌≢◌}
use Rattle.scale.specs.Model.{ScaleModel}

abbrev pub Row : Type 0
Row = ℕ → ℕ

-- a blank row
abbrev pub zeros : Row
zeros p = 0

-- r is the lowest place of the row f that holds another code than 0, or the end
pub record First (len : ℕ) (f : Row) (r : ℕ) : Type 0 where
  pub within : r ≤ len
  pub before : (p : ℕ) → p < r → f p ≡ 0
  pub found : r < len → f r ≢ 0

-- g is the row f with c put at a place: nothing changes if there is no such place, or c is no code
pub record Put (len q : ℕ) (f : Row) (place c : ℕ) (g : Row) : Type 0 where
  pub here : place < len → c < q → g place ≡ c
  pub rest : (p : ℕ) → (p ≢ place) → g p ≡ f p
  pub past : len ≤ place → g place ≡ f place
  pub off : q ≤ c → g place ≡ f place

-- g is the row f with c times the row t added: nothing changes if c is no code
pub record Added (M : ScaleModel) (f : Row) (c : ℕ) (t g : Row) : Type 0 where
  pub sums : c < M.q → (p : ℕ) → g p ≡ M.plus (f p) (M.times c (t p))
  pub off : M.q ≤ c → (p : ℕ) → g p ≡ f p
