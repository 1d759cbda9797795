-- Text in an output. Assumes nothing.
use Rattle.std.specs.Prelude.{◌≡◌, ℕ, ◌+◌, List, [], ◌∷◌, length, decimal, slice_set}
use Rattle.patch.specs.declared.text.Output.{Output}

-- an output after a text was put into it from place p on; what would go past its end is lost
abbrev pub laid : List ℕ → ℕ → List ℕ → List ℕ
laid out p [] = out
laid out p (b ∷ text) = laid (slice_set out p b) (p + 1) text

-- a text was put into an output from place p on, and ends before place e
pub record Put (out : List ℕ) (p : ℕ) (text : List ℕ) (after : List ℕ) (e : ℕ) : Type 0 where
  pub writes : after ≡ laid out p text
  pub ends : e ≡ p + length text

-- a text was put into an output at its place, which moved on behind it
pub record Puts (before : Output) (text : List ℕ) (after : Output) : Type 0 where
  pub same : after.out.ghost_name ≡ before.out.ghost_name
  pub put : Put before.out.now before.at text after.out.now after.at

-- a space and a number without leading zeros
abbrev pub field : ℕ → List ℕ
field n = 32 ∷ decimal n
