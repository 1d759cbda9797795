-- Settings: numbers whose bit k is input k. Assumes nothing.
use Rattle.std.specs.Prelude.{ℕ, suc, ◌+◌, ◌*◌, ◌/◌, ◌%◌, ◌^◌}

-- the setting with bit i made v
abbrev pub made : ℕ → ℕ → ℕ → ℕ
made setting i v = (setting / 2 ^ suc i * 2 + v) * 2 ^ i + setting % 2 ^ i
