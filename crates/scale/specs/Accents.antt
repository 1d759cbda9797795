-- Accents: 127 codes. Sums and products are taken to their remainder by 127. A code is sent as its velocity.
use Rattle.std.specs.Prelude.{◌≡◌, ℕ, ◌+◌, ◌-◌, ◌*◌, ◌%◌, refl}
use Rattle.std.proofs.Common.{arith}
use Rattle.linear.specs.Codes.{CodeField}
use Rattle.linear.proofs.Residues.{residues}
use Rattle.scale.specs.Inverse.{inverse_below}
use Rattle.scale.specs.Model.{ScaleModel}

abbrev pub plus : ℕ → ℕ → ℕ
plus a b = (a + b) % 127

abbrev pub times : ℕ → ℕ → ℕ
times a b = (a * b) % 127

abbrev pub neg : ℕ → ℕ
neg a = (127 - a) % 127

abbrev pub inv : ℕ → ℕ
inv a = inverse_below times 127 a

-- the laws of remainders hold by any number; the inverses are tried at all codes
pub accent_field : CodeField 127 plus times neg inv
unfolding inverse_below
accent_field = residues 127 inv (omega arith) refl

pub inv_zero : inv 0 ≡ 0
unfolding inverse_below
inv_zero = refl

abbrev pub accents : ScaleModel
accents = record {
  q = 127;
  plus = plus;
  times = times;
  neg = neg;
  inv = inv;
  velocity = λ a. a;
  few = omega arith;
  field = accent_field;
  inv_zero = inv_zero;
  silent = refl;
  heard = λ c p l. (omega arith, omega arith);
}
