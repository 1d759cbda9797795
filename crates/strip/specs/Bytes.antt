-- What 128 stored bytes mean as a row of a scale of q codes.
use Rattle.std.specs.Prelude.{ℕ, cond, List, nat_lt, slice_index}
use Rattle.strip.specs.Row.{Row}

-- a byte that is no code counts as 0
abbrev pub byte_code : ℕ → ℕ → ℕ
byte_code q b = cond (nat_lt b q) b 0

-- place p has byte p, and from place 128 on there is 0
abbrev pub byte_row : ℕ → List ℕ → Row
byte_row q bytes p = cond (nat_lt p 128) (byte_code q (slice_index bytes p)) 0
