-- The descriptor of a settled form.
use Rattle.std.specs.Prelude.{ℕ, ◌+◌, cond, List, nat_lt, slice_index}

-- what is noted of cell k + 1: the input that the scan order reads at its position, and 0 where there is no such cell
abbrev pub noted_input : List ℕ → ℕ → List ℕ → ℕ → ℕ
noted_input order cells pos k = cond (nat_lt k cells) (slice_index order (slice_index pos (k + 1))) 0
