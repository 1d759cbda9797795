-- Records that are put one behind the other.
use Rattle.std.proofs.Common.{◌≡◌, ℕ, List, [], ◌++◌, refl, ◌∙◌}
use Rattle.patch.proofs.Putting.{put_none, put_then, put_as}
use Rattle.forms.specs.Continued.{Continued}
use Rattle.forms.specs.declared.encoding.Encoder.{Encoder}

pub none_put : (r : Encoder) → Continued r [] r
none_put r = record { same_output = refl; puts = put_none _ _ }

pub then_put : {a b c : Encoder} {x y : List ℕ} → Continued a x b → Continued b y c → Continued a (x ++ y) c
then_put p q = record { same_output = q.same_output ∙ p.same_output; puts = put_then p.puts q.puts }

pub as_put : {a b : Encoder} {x y : List ℕ} → x ≡ y → Continued a x b → Continued a y b
as_put e p = record { same_output = p.same_output; puts = put_as e p.puts }
