-- Rows of gates that are stored in two words. Assumes nothing.
use Rattle.std.specs.Prelude.{◌≡◌, ℕ, zero, suc, ◌+◌, ◌-◌, ◌/◌, ◌%◌, ◌^◌, ◌<◌, ◌≤◌, List, [], ◌∷◌, length, ◌≢◌, nat_lt, slice_index, slice_set, refl}
use Rattle.std.proofs.Common.{sym, ap, ap₂, ◌∙◌, ⊎_elim, arith}
use Rattle.std.proofs.Math.Path.{fun_ext}
use Rattle.std.specs.Int.Bits.{bit_xor, xor_zero_r}
use Rattle.std.specs.Int.Count.{count_trailing_zeros}
use Rattle.std.proofs.lemmas.Nat.{trailing_le}
use Rattle.std.proofs.lemmas.List.{get_or-set_same, get_or-set_other}
use Rattle.std.proofs.lemmas.Bool.{cases_lt, cases_eq, cond-true, cond-false, lt-ltb, le-ltb}
use Rattle.scale.specs.Gates.{gates}
use Rattle.strip.specs.Row.{Row, First, Put, Added, zeros}
use Rattle.strip.specs.Words.{bit, bit_row}
use Rattle.strip.specs.Bits.{bit_below, bit_zero, bit_of_xor, bit_same, bit_other, same_bits, zeros_below, one_at}

-- ---- one place
pub inside : (ws : List ℕ) (p : ℕ) → p < 128 → bit_row ws p ≡ bit (slice_index ws (p / 64)) (p % 64)
inside ws p h = cond-true (nat_lt p 128) (bit (slice_index ws (p / 64)) (p % 64)) 0 (lt-ltb p 128 h)

pub past : (ws : List ℕ) (p : ℕ) → 128 ≤ p → bit_row ws p ≡ 0
past ws p h = cond-false (nat_lt p 128) (bit (slice_index ws (p / 64)) (p % 64)) 0 (le-ltb p 128 h)

pub low : (ws : List ℕ) (j : ℕ) → j < 64 → bit_row ws j ≡ bit (slice_index ws 0) j
low ws j h =
    let w : j / 64 ≡ 0 = omega arith in
    let b : j % 64 ≡ j = omega arith in
    inside ws j (omega arith) ∙ ap₂ (λ x y. bit (slice_index ws x) y) w b

pub high : (ws : List ℕ) (j : ℕ) → j < 64 → bit_row ws (64 + j) ≡ bit (slice_index ws 1) j
high ws j h =
    let w : (64 + j) / 64 ≡ 1 = omega arith in
    let b : (64 + j) % 64 ≡ j = omega arith in
    inside ws (64 + j) (omega arith) ∙ ap₂ (λ x y. bit (slice_index ws x) y) w b

-- what holds in the low word, in the high word and past both holds at each place
by_words : (P : ℕ → Type 0) → ((j : ℕ) → j < 64 → P j) → ((j : ℕ) → j < 64 → P (64 + j)) → ((p : ℕ) → 128 ≤ p → P p) → (p : ℕ) → P p
by_words P first second rest p = ⊎_elim (first p) (λ l. ⊎_elim (λ h. there h (omega arith)) (rest p) (cases_lt p 128)) (cases_lt p 64)
  where
    there : p < 128 → 64 + (p - 64) ≡ p → P p
    there h e = rw e at (second (p - 64) (omega arith))

pub row_below : (ws : List ℕ) (p : ℕ) → bit_row ws p < 2
row_below ws p = ⊎_elim (λ h. rw (inside ws p h) (bit_below (slice_index ws (p / 64)) (p % 64))) (λ h. rw (past ws p h) (omega arith)) (cases_lt p 128)

-- ---- whole rows
pub blank_row : bit_row (0 ∷ 0 ∷ []) ≡ zeros
blank_row = let ws : List ℕ = 0 ∷ 0 ∷ [] in fun_ext (by_words (λ p. bit_row ws p ≡ 0) (λ j h. low ws j h ∙ bit_zero j) (λ j h. high ws j h ∙ bit_zero j) (past ws))

-- rows are equal exactly if both words are
pub same_rows : (a b : List ℕ) → slice_index a 0 ≡ slice_index b 0 → slice_index a 1 ≡ slice_index b 1 → bit_row a ≡ bit_row b
same_rows a b e f =
    fun_ext (by_words (λ p. bit_row a p ≡ bit_row b p) (λ j h. low a j h ∙ (ap (λ w. bit w j) e ∙ sym (low b j h)))
    (λ j h. high a j h ∙ (ap (λ w. bit w j) f ∙ sym (high b j h))) (λ p h. past a p h ∙ sym (past b p h)))

pub same_low : (a b : List ℕ) → slice_index a 0 < 2 ^ 64 → slice_index b 0 < 2 ^ 64 → bit_row a ≡ bit_row b → slice_index a 0 ≡ slice_index b 0
same_low a b ha hb e = same_bits 64 (slice_index a 0) (slice_index b 0) ha hb (λ j h. sym (low a j h) ∙ (ap (λ (f : Row). f j) e ∙ low b j h))

pub same_high : (a b : List ℕ) → slice_index a 1 < 2 ^ 64 → slice_index b 1 < 2 ^ 64 → bit_row a ≡ bit_row b → slice_index a 1 ≡ slice_index b 1
same_high a b ha hb e = same_bits 64 (slice_index a 1) (slice_index b 1) ha hb (λ j h. sym (high a j h) ∙ (ap (λ (f : Row). f (64 + j)) e ∙ high b j h))

-- ---- adding
abbrev pub xored : List ℕ → List ℕ → List ℕ
xored a b = bit_xor (slice_index a 0) (slice_index b 0) ∷ bit_xor (slice_index a 1) (slice_index b 1) ∷ []

pub row_xor : (a b : List ℕ) (p : ℕ) → bit_row (xored a b) p ≡ bit_xor (bit_row a p) (bit_row b p)
row_xor a b =
    by_words (λ p. bit_row (xored a b) p ≡ bit_xor (bit_row a p) (bit_row b p))
    (λ j h. low (xored a b) j h ∙ (bit_of_xor (slice_index a 0) (slice_index b 0) j ∙ sym (ap₂ bit_xor (low a j h) (low b j h))))
    (λ j h. high (xored a b) j h ∙ (bit_of_xor (slice_index a 1) (slice_index b 1) j ∙ sym (ap₂ bit_xor (high a j h) (high b j h))))
    (λ p h. past (xored a b) p h ∙ sym (ap₂ bit_xor (past a p h) (past b p h)))

one_and : (b : ℕ) → b < 2 → gates.times 1 b ≡ b
one_and zero h = refl
one_and (suc zero) h = refl
one_and (suc (suc b)) h = absurd (omega arith)

pub added_one : (a : List ℕ) (c : ℕ) (b : List ℕ) → c ≡ 1 → Added gates (bit_row a) c (bit_row b) (bit_row (xored a b))
added_one a c b e = record {
  sums = λ _ p. row_xor a b p ∙ ap (bit_xor (bit_row a p)) (sym (ap (λ x. gates.times x (bit_row b p)) e ∙ one_and (bit_row b p) (row_below b p)));
  off = λ h p. absurd (omega arith);
}

pub added_none : (a : List ℕ) (c : ℕ) (b : List ℕ) → (c ≢ 1) → Added gates (bit_row a) c (bit_row b) (bit_row a)
added_none a c b ne = record {
  sums = λ h p.
      let none : c ≡ 0 = omega arith in
      sym (ap (λ x. bit_xor (bit_row a p) (gates.times x (bit_row b p))) none ∙ xor_zero_r (bit_row a p));
  off = λ h p. refl;
}

-- a bit that is not c, turned, is c
turns_to : (b c : ℕ) → b < 2 → c < 2 → (b ≢ c) → bit_xor b 1 ≡ c
turns_to zero zero hb hc ne = absurd (ne refl)
turns_to zero (suc zero) hb hc ne = refl
turns_to zero (suc (suc c)) hb hc ne = absurd (omega arith)
turns_to (suc zero) zero hb hc ne = refl
turns_to (suc zero) (suc c) hb hc ne = absurd (omega arith)
turns_to (suc (suc b)) c hb hc ne = absurd (omega arith)

-- ---- the lowest place
pub first_low : (ws : List ℕ) → count_trailing_zeros 64 (slice_index ws 0) < 64 → First 128 (bit_row ws) (count_trailing_zeros 64 (slice_index ws 0))
first_low ws h = record {
  within = omega arith;
  before = λ p l. low ws p (omega arith) ∙ zeros_below 64 (slice_index ws 0) p l;
  found = λ _ e. omega (arith, e, low ws (count_trailing_zeros 64 (slice_index ws 0)) h, one_at 64 (slice_index ws 0) h);
}

pub first_high : (ws : List ℕ) → 64 ≤ count_trailing_zeros 64 (slice_index ws 0) → First 128 (bit_row ws) (64 + count_trailing_zeros 64 (slice_index ws 1))
first_high ws h = record {
  within = omega (arith, trailing_le 64 (slice_index ws 1));
  before = by_words (λ p. p < 64 + count_trailing_zeros 64 (slice_index ws 1) → bit_row ws p ≡ 0)
      (λ j l _. low ws j l ∙ zeros_below 64 (slice_index ws 0) j (omega arith))
      (λ j l m. high ws j l ∙ zeros_below 64 (slice_index ws 1) j (omega arith))
      (λ p l _. past ws p l);
  found = λ l e.
      let m : count_trailing_zeros 64 (slice_index ws 1) < 64 = omega arith in
      omega (arith, e, high ws (count_trailing_zeros 64 (slice_index ws 1)) m, one_at 64 (slice_index ws 1) m);
}

-- ---- one bit turned: x is the power of two that has the bit of place p
module _ (ws : List ℕ) (p x : ℕ) (two : length ws ≡ 2) (place : p < 128) (power : x ≡ 2 ^ (p % 64)) where
  abbrev pub turned : List ℕ
  turned = slice_set ws (p / 64) (bit_xor (slice_index ws (p / 64)) x)

  -- a place in the word that is changed
  in_word : (k : ℕ) → k / 64 ≡ p / 64 → bit (slice_index turned (k / 64)) (k % 64) ≡ bit_xor (bit (slice_index ws (k / 64)) (k % 64)) (bit (2 ^ (p % 64)) (k % 64))
  in_word k e =
      let l : p / 64 < length ws = omega arith in
      ap (λ i. bit (slice_index turned i) (k % 64)) e ∙
      (ap (λ w. bit w (k % 64)) (get_or-set_same ws (p / 64) _ 0 l) ∙
      (bit_of_xor (slice_index ws (p / 64)) x (k % 64) ∙
      ap₂ bit_xor (ap (λ i. bit (slice_index ws i) (k % 64)) (sym e)) (ap (λ y. bit y (k % 64)) power)))

  turned_at : bit_row turned p ≡ bit_xor (bit_row ws p) 1
  turned_at = inside turned p place ∙ (in_word p refl ∙ ap₂ bit_xor (sym (inside ws p place)) (bit_same (p % 64)))

  turned_in : (k : ℕ) → k < 128 → (k ≢ p) → bit (slice_index turned (k / 64)) (k % 64) ≡ bit (slice_index ws (k / 64)) (k % 64)
  turned_in k h ne =
      ⊎_elim
      (λ e. let o : k % 64 ≡ p % 64 → ⊥ = omega arith in in_word k e ∙ (ap (bit_xor (bit (slice_index ws (k / 64)) (k % 64))) (bit_other (p % 64) (k % 64) o) ∙ xor_zero_r _))
      (λ o. ap (λ w. bit w (k % 64)) (get_or-set_other ws (p / 64) (k / 64) _ 0 o)) (cases_eq (k / 64) (p / 64))

  turned_other : (k : ℕ) → (k ≢ p) → bit_row turned k ≡ bit_row ws k
  turned_other k ne =
      ⊎_elim (λ h. inside turned k h ∙ (turned_in k h ne ∙ sym (inside ws k h))) (λ h. past turned k h ∙ sym (past ws k h)) (cases_lt k 128)

  pub put_turned : (c : ℕ) → c < 2 → (bit_row ws p ≢ c) → Put 128 2 (bit_row ws) p c (bit_row turned)
  put_turned c h ne = record {
    here = λ _ _. turned_at ∙ turns_to (bit_row ws p) c (row_below ws p) h ne;
    rest = turned_other;
    past = λ l. absurd (omega arith);
    off = λ l. absurd (omega arith);
  }
