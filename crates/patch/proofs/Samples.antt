-- Computed. Assumes nothing.
use Rattle.std.proofs.Common.{◌≡◌, ℕ, zero, suc, ◌<◌, ◌≤◌, ◌≢◌, refl, arith}
use lib.Bits.{bit_and, bit_xor}
use Rattle.linear.specs.Codes.{CodeField}
use Rattle.linear.specs.Sums.{fold}
use Rattle.linear.proofs.Tested.{Passes, tested, inverse}
use Rattle.patch.specs.Encoding.{EchelonNumbers, diagram_records}
use Rattle.patch.specs.Faults.{Order}
use Rattle.patch.specs.Paths.{walks, paths}
use Rattle.patch.specs.Samples.{Samples, plain_order, inp, row, out, head}

below_two : (P : ℕ → Type 0) → P 0 → P 1 → (t : ℕ) → t < 2 → P t
below_two P a b zero h = a
below_two P a b (suc zero) h = b
below_two P a b (suc (suc t)) h = absurd (omega arith)

one_two : (P : ℕ → Type 0) → P 1 → P 2 → (j : ℕ) → 0 < j → j ≤ 2 → P j
one_two P a b zero z h = absurd (omega arith)
one_two P a b (suc j) z h = below_two (λ i. P (suc i)) a b j (omega arith)

plain : Order plain_order
plain = record {
  some = omega arith;
  few = omega arith;
  listed = below_two _ (omega arith) (omega arith);
  placed = below_two _ (omega arith) (omega arith);
  there = below_two _ refl refl;
  back = below_two _ refl refl;
}

echelon : EchelonNumbers plain_order 2 2 inp row out head
echelon = record {
  input = one_two _ (omega arith) (omega arith);
  code = λ j t z h l.
      one_two (λ i. (u : ℕ) → u < i → row i u < 2) (λ u k. below_two (λ v. row 1 v < 2) (omega arith) (omega arith) u (omega arith)) (below_two (λ v. row 2 v < 2) (omega arith) (omega arith)) j z h t l;
  out_code = λ t h. elim (h_two t h) [ yes e ↦ rw e (omega arith) | no e ↦ below_two (λ u. out u < 2) (omega arith) (omega arith) t (omega arith) ];
  later = λ j t h z l n. let a : j ≡ 2 = omega arith in let b : t ≡ 1 = omega arith in rw (a, b) (omega arith);
  never_later = λ i j z h l. let a : j ≡ 2 = omega arith in let b : i ≡ 1 = omega arith in rw (a, b) (omega arith);
  head_below = λ j z h. z;
  head_one = one_two _ refl refl;
  before_head = λ j t z h l. absurd (omega arith);
  heads_rise = λ i j z h l e.
      let a : j ≡ 2 = omega arith in let b : i ≡ 1 = omega arith in let c : inp 1 ≡ inp 2 = rw (a, b) at e in absurd (omega arith);
  heads_clear = λ i j zi hi zj hj n e l.
      absurd (one_two (λ a. (b : ℕ) → 0 < b → b ≤ 2 → a ≢ b → inp a ≡ inp b → ⊥) (one_two _ (λ m f. m refl) (λ m f. omega arith)) (one_two _ (λ m f. omega arith) (λ m f. m refl)) i zi hi j zj hj n e);
}
  where
    h_two : (t : ℕ) → t ≤ 2 → Dec (t ≡ 2)
    h_two t h = native.Mathlib.Decide.ℕ_discrete t 2

passes : Passes 2 bit_xor bit_and (λ a. a) (λ a. a)
unfolding inverse
passes = record {
  two = tt;
  plus_code = tt;
  times_code = tt;
  neg_code = tt;
  inv_code = tt;
  plus_assoc = tt;
  plus_comm = tt;
  plus_zero = tt;
  plus_neg = tt;
  times_assoc = tt;
  times_comm = tt;
  times_one = tt;
  times_plus = tt;
  times_inv = tt;
}

pub gates : CodeField 2 bit_xor bit_and (λ a. a) (λ a. a)
gates = tested 2 bit_xor bit_and (λ a. a) (λ a. a) passes

pub samples : Samples
unfolding fold walks paths diagram_records
samples = (refl, refl, refl, refl, refl, refl, refl, refl, refl, refl, refl, refl, refl, refl, refl, refl, refl, refl, refl, gates, plain, echelon, refl)
