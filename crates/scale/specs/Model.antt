-- What a scale means: its codes are the numbers 0 to q - 1; the operations on them; and the laws that it shows of itself.
-- The laws are over codes only: nothing is asked of an operation at a number that is no code.
use Rattle.std.specs.Prelude.{◌≡◌, ℕ, ◌<◌, ◌≤◌, cond, ◌&&◌, nat_lt}
use Rattle.linear.specs.Codes.{CodeField}

pub record ScaleModel : Type 0 where
  pub q : ℕ
  pub plus : ℕ → ℕ → ℕ
  pub times : ℕ → ℕ → ℕ
  pub neg : ℕ → ℕ
  pub inv : ℕ → ℕ
  -- how hard a hit of this code is sent
  pub velocity : ℕ → ℕ
  -- there are 2 to 128 codes, and they make a field (at least two codes: the field's law `two`)
  pub few : q ≤ 128
  pub field : CodeField q plus times neg inv
  pub inv_zero : inv 0 ≡ 0
  -- code 0 is not heard, and every other code is
  pub silent : velocity 0 ≡ 0
  pub heard : (c : ℕ) → 0 < c → c < q → (1 ≤ velocity c) × (velocity c ≤ 127)

-- What is answered for every byte: the operation at codes, and 0 where a byte given is no code.
abbrev pub at_code : ℕ → (ℕ → ℕ) → ℕ → ℕ
at_code q operation a = cond (nat_lt a q) (operation a) 0

abbrev pub at_codes : ℕ → (ℕ → ℕ → ℕ) → ℕ → ℕ → ℕ
at_codes q operation a b = cond (nat_lt a q && nat_lt b q) (operation a b) 0
