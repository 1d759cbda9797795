-- What is put into the 32 strips of a slot: the rows that they have then, one by one.
use Rattle.std.specs.Prelude.{◌≡◌, ℕ, ◌<◌, cond, List, length, ◌==◌, nat_le}
use Rattle.elimination.specs.Arithmetic.{arithmetic}
use Rattle.elimination.specs.Rows.{Rows, Outside, scaled}
use Rattle.scale.specs.Model.{ScaleModel}
use Rattle.strip.specs.Row.{Row, zeros}

-- the 32 strips from base on have these rows, and every other strip is as it was
pub record Filled {S : Type 0} (code : S → Row) (strips : List S) (base : ℕ) (rows : ℕ → Row) (strips' : List S) : Type 0 where
  pub here : (k : ℕ) → k < 32 → Rows code strips' base k ≡ rows k
  pub outside : Outside code strips base 32 strips'
  pub long : length strips' ≡ length strips

-- the outlet of a form, then the rows of its cells 1, 2, .., then blank rows
abbrev pub form_rows : Row → ℕ → (ℕ → Row) → ℕ → Row
form_rows outlet cells rows k = cond (k == 0) outlet (cond (nat_le k cells) (rows k) zeros)

-- c times the outlet, and the rows of the cells; c times is nothing if c is no code
abbrev pub weighed_rows : ScaleModel → ℕ → (ℕ → Row) → ℕ → Row
weighed_rows M c rows k = cond (k == 0) (scaled (arithmetic M) c (rows 0)) (rows k)

-- blank rows
abbrev pub silent_rows : ℕ → Row
silent_rows k = zeros
