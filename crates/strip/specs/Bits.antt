-- The bits of a number: of an exclusive or, of a power of two, and below the lowest that is set. Assumes nothing.
use Rattle.std.specs.Prelude.{◌≡◌, ℕ, zero, suc, ◌+◌, ◌-◌, ◌*◌, ◌/◌, ◌%◌, ◌^◌, ◌<◌, ◌≢◌, refl}
use Rattle.std.proofs.Common.{sym, ap, ◌∙◌, arith, div-one}
use Rattle.std.specs.Int.Bits.{bit_xor}
use Rattle.std.specs.Int.Count.{count_trailing_zeros, under}
use Rattle.std.proofs.lemmas.Nat.{shr-shr, xor_shr, xor_mod}
use Rattle.std.proofs.lemmas.Nat.Bits.{bit_at-zero, bit_at-pow_same, bit_at-pow_other, same_from_bits_below}
use Rattle.strip.specs.Words.{bit}

pub bit_below : (n j : ℕ) → bit n j < 2
unfolding bit
bit_below n j = omega arith

pub bit_zero : (j : ℕ) → bit 0 j ≡ 0
unfolding bit
bit_zero j = bit_at-zero j

pub bit_of_xor : (a b j : ℕ) → bit (bit_xor a b) j ≡ bit_xor (bit a j) (bit b j)
unfolding bit
bit_of_xor a b j = ap (λ x. x % 2) (xor_shr a b j) ∙ xor_mod (a / 2 ^ j) (b / 2 ^ j) 1

-- ---- a power of two
pub bit_same : (i : ℕ) → bit (2 ^ i) i ≡ 1
unfolding bit
bit_same i = bit_at-pow_same i

pub bit_other : (i j : ℕ) → (j ≢ i) → bit (2 ^ i) j ≡ 0
unfolding bit
bit_other i j ne = bit_at-pow_other i j ne

-- ---- a number by its lowest bit and its half
bit_half : (n j : ℕ) → bit n (suc j) ≡ bit (n / 2) j
unfolding bit
bit_half n j = let e : 1 + j ≡ suc j = omega arith in ap (λ x. x % 2) (ap (λ x. n / 2 ^ x) (sym e) ∙ sym (shr-shr n 1 j))

bit_lowest : (n : ℕ) → bit n 0 ≡ n % 2
unfolding bit
bit_lowest n = ap (λ x. x % 2) (div-one n)

-- numbers of k bits are equal if their bits are
pub same_bits : (k m n : ℕ) → m < 2 ^ k → n < 2 ^ k → ((j : ℕ) → j < k → bit m j ≡ bit n j) → m ≡ n
unfolding bit
same_bits k m n hm hn e = same_from_bits_below k m n hm hn e

-- ---- the zeros below the lowest bit that is set
zeros_step : (n t : ℕ) → ((j : ℕ) → j < t → bit (n / 2) j ≡ 0) → (d : ℕ) → n % 2 ≡ d → (j : ℕ) → j < under d t → bit n j ≡ 0
zeros_step n t ih zero e zero h = bit_lowest n ∙ e
zeros_step n t ih zero e (suc j) h = bit_half n j ∙ ih j (omega arith)
zeros_step n t ih (suc d) e j h = absurd (omega arith)

pub zeros_below : (k n j : ℕ) → j < count_trailing_zeros k n → bit n j ≡ 0
unfolding count_trailing_zeros
zeros_below zero n j h = absurd (omega arith)
zeros_below (suc k) n j h = zeros_step n (count_trailing_zeros k (n / 2)) (λ j h. zeros_below k (n / 2) j h) (n % 2) refl j h

one_step : (n t k : ℕ) → (t < k → bit (n / 2) t ≡ 1) → (d : ℕ) → n % 2 ≡ d → under d t < suc k → bit n (under d t) ≡ 1
one_step n t k ih zero e h = bit_half n t ∙ ih (omega arith)
one_step n t k ih (suc d) e h = bit_lowest n ∙ omega arith

pub one_at : (k n : ℕ) → count_trailing_zeros k n < k → bit n (count_trailing_zeros k n) ≡ 1
unfolding count_trailing_zeros
one_at zero n h = absurd (omega arith)
one_at (suc k) n h = one_step n (count_trailing_zeros k (n / 2)) k (one_at k (n / 2)) (n % 2) refl h
