-- Gates: two codes that add by exclusive or and multiply by and. Code 1 is sent with velocity 100.
use Rattle.std.specs.Prelude.{ℕ, ◌*◌, bit_and, bit_xor, refl}
use Rattle.std.proofs.Common.{arith}
use Rattle.linear.specs.Codes.{CodeField}
use Rattle.linear.proofs.Tested.{tested}
use Rattle.scale.specs.Model.{ScaleModel}

-- 1 is its own negative and its own inverse
abbrev pub itself : ℕ → ℕ
itself a = a

-- the laws, each tried at all codes
pub gate_field : CodeField 2 bit_xor bit_and itself itself
unfolding Rattle.linear.proofs.Tested.inverse
gate_field = tested 2 bit_xor bit_and itself itself (record { two = tt; plus_code = tt; times_code = tt; neg_code = tt; inv_code = tt; plus_assoc = tt; plus_comm = tt; plus_zero = tt; plus_neg = tt; times_assoc = tt; times_comm = tt; times_one = tt; times_plus = tt; times_inv = tt })

abbrev pub gates : ScaleModel
gates = record {
  q = 2;
  plus = bit_xor;
  times = bit_and;
  neg = itself;
  inv = itself;
  velocity = λ a. 100 * a;
  few = omega arith;
  field = gate_field;
  inv_zero = refl;
  silent = refl;
  heard = λ c p l. (omega arith, omega arith);
}
