-- Lanes: sixteen codes that are polynomials in a. Bit k of a code stands for the power a^k: code 11 has the bits 3, 1 and 0, and is a^3 + a + 1.
-- Equal powers cancel, so the sum is exclusive or, and a code is its own negative. Code c is sent with velocity 8 × c.
use Rattle.std.specs.Prelude.{◌≡◌, ℕ, zero, suc, ◌+◌, ◌*◌, ◌/◌, ◌%◌, ◌^◌, bit_xor, refl}
use Rattle.std.proofs.Common.{arith}
use Rattle.linear.specs.Codes.{CodeField}
use Rattle.linear.proofs.Tested.{tested}
use Rattle.scale.specs.Gates.{itself}
use Rattle.scale.specs.Inverse.{inverse_below}
use Rattle.scale.specs.Model.{ScaleModel}

-- 1 if the power a^k stands in p, and 0 if not
abbrev pub coefficient : ℕ → ℕ → ℕ
coefficient p k = (p / 2 ^ k) % 2

-- p times the powers of s below a^n: the sum of p × a^k over those powers a^k; p × a^k is p with each bit moved up by k places
abbrev pub product_below : ℕ → ℕ → ℕ → ℕ
product_below zero p s = 0
product_below (suc k) p s = bit_xor (product_below k p s) (coefficient s k * (p * 2 ^ k))

-- p reduced by a^4 + a + 1, which has the bits 4, 1 and 0 and so is 19: from a^(n + 3) down to a^4,
-- a power that stands in p is cancelled by adding the multiple of a^4 + a + 1 that it is the highest power of
abbrev pub reduced : ℕ → ℕ → ℕ
reduced zero p = p
reduced (suc k) p = reduced k (bit_xor p (coefficient p (k + 4) * (19 * 2 ^ k)))

-- the product of two codes has no power above a^6
unfoldable pub times : ℕ → ℕ → ℕ
times p s = reduced 3 (product_below 4 p s)

abbrev pub inv : ℕ → ℕ
inv p = inverse_below times 16 p

-- the laws, each tried at all codes
pub lane_field : CodeField 16 bit_xor times itself inv
unfolding times inverse_below Rattle.linear.proofs.Tested.inverse
lane_field = tested 16 bit_xor times itself inv (record { two = tt; plus_code = tt; times_code = tt; neg_code = tt; inv_code = tt; plus_assoc = tt; plus_comm = tt; plus_zero = tt; plus_neg = tt; times_assoc = tt; times_comm = tt; times_one = tt; times_plus = tt; times_inv = tt })

pub inv_zero : inv 0 ≡ 0
unfolding times inverse_below
inv_zero = refl

abbrev pub lanes : ScaleModel
lanes = record {
  q = 16;
  plus = bit_xor;
  times = times;
  neg = itself;
  inv = inv;
  velocity = λ p. 8 * p;
  few = omega arith;
  field = lane_field;
  inv_zero = inv_zero;
  silent = refl;
  heard = λ c p l. (omega arith, omega arith);
}
