-- What two stored words of 64 bits mean as a row of gates.
use Rattle.std.specs.Prelude.{ℕ, ◌/◌, ◌%◌, ◌^◌, cond, List, nat_lt, slice_index}
use Rattle.strip.specs.Row.{Row}

-- bit j of n, counted from the lowest
unfoldable pub bit : ℕ → ℕ → ℕ
bit n j = n / 2 ^ j % 2

-- place p has bit p % 64 of word p / 64, and from place 128 on there is 0
abbrev pub bit_row : List ℕ → Row
bit_row words p = cond (nat_lt p 128) (bit (slice_index words (p / 64)) (p % 64)) 0
