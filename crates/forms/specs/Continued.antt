-- Records that are put one behind the other into an output.
use Rattle.std.specs.Prelude.{◌≡◌, ℕ, List}
use Rattle.patch.specs.Output.{Put}
use Rattle.forms.specs.declared.encoding.Encoder.{Encoder}

-- these bytes were put behind the records, into the output that holds them
pub record Continued (before : Encoder) (bytes : List ℕ) (after : Encoder) : Type 0 where
  pub same_output : after.out.ghost_name ≡ before.out.ghost_name
  pub puts : Put before.out.now before.at bytes after.out.now after.at
