-- Rows that are stored a byte to a place. Assumes nothing.
use Rattle.std.proofs.Common.{◌≡◌, ℕ, ◌<◌, ◌≤◌, List, get_or, replicate, sym, refl, ap, ◌∙◌, ap₂, ⊎_elim, arith, rules}
use mathlib.Core.Path.{fun_ext}
use Rattle.std.proofs.lemmas.List.{get_or-replicate}
use Rattle.std.proofs.lemmas.Bool.{cases_lt}
use Rattle.scale.specs.Model.{ScaleModel, at_codes}
use Rattle.scale.proofs.Answered.{at_codes_is}
use Rattle.scale.proofs.Laws.{zero_code, times_zero, zero_times}
use Rattle.strip.specs.Bytes.{byte_code, byte_row}
use Rattle.strip.specs.Row.{Row, Added, zeros}

-- ---- one byte, and one place
pub code_is : (q b : ℕ) → b < q → byte_code q b ≡ b
code_is q b h = search rules

code_of_zero : (q : ℕ) → byte_code q 0 ≡ 0
code_of_zero q = search rules

pub code_below : (q b : ℕ) → 0 < q → byte_code q b < q
code_below q b some = search rules

pub inside : (q : ℕ) (xs : List ℕ) (p : ℕ) → p < 128 → byte_row q xs p ≡ byte_code q (get_or xs p 0)
inside q xs p h = search rules

pub past : (q : ℕ) (xs : List ℕ) (p : ℕ) → 128 ≤ p → byte_row q xs p ≡ 0
past q xs p h = search rules

pub row_below : (q : ℕ) (xs : List ℕ) (p : ℕ) → 0 < q → byte_row q xs p < q
row_below q xs p some = search rules

-- ---- whole rows
pub blank_row : (q : ℕ) → byte_row q (replicate 128 0) ≡ zeros
blank_row q =
    let blank : List ℕ = replicate 128 0 in
    fun_ext (λ p. ⊎_elim (λ h. inside q blank p h ∙ (ap (byte_code q) (get_or-replicate 128 p 0 0 h) ∙ code_of_zero q)) (past q blank p) (cases_lt p 128))

pub blank_codes : (q : ℕ) (codes : List ℕ) → codes ≡ replicate 128 0 → byte_row q codes ≡ zeros
blank_codes q codes e = ap (byte_row q) e ∙ blank_row q

-- what stands at the places of equal rows
pub same_codes : (q : ℕ) (xs ys : List ℕ) → byte_row q xs ≡ byte_row q ys → (p : ℕ) → p < 128 → byte_code q (get_or xs p 0) ≡ byte_code q (get_or ys p 0)
same_codes q xs ys e p h = sym (inside q xs p h) ∙ (ap (λ (f : Row). f p) e ∙ inside q ys p h)

-- ---- adding
module _ (M : ScaleModel) (s : List ℕ) (c : ℕ) (t : List ℕ) where
  coded : (xs : List ℕ) (p : ℕ) → byte_row M.q xs p < M.q
  coded xs p = row_below M.q xs p (zero_code M)

  -- what the scale answers at place p
  abbrev pub answered : ℕ → ℕ
  answered p = at_codes M.q M.plus (byte_row M.q s p) (at_codes M.q M.times c (byte_row M.q t p))

  pub added : (sums : List ℕ) → c < M.q → ((p : ℕ) → p < 128 → get_or sums p 0 ≡ answered p) → Added M (byte_row M.q s) c (byte_row M.q t) (byte_row M.q sums)
  added sums h a = record {
    sums = λ _ p. ⊎_elim
        (λ l.
        let product = M.field.times_code c _ h (coded t p) in
        inside M.q sums p l ∙
        (ap (byte_code M.q) (a p l ∙ (ap (at_codes M.q M.plus (byte_row M.q s p)) (at_codes_is M.q M.times c _ h (coded t p)) ∙ at_codes_is M.q M.plus _ _ (coded s p) product)) ∙
        code_is M.q _ (M.field.plus_code _ _ (coded s p) product)))
        (λ l.
        past M.q sums p l ∙
        sym (ap₂ (λ x y. M.plus x (M.times c y)) (past M.q s p l) (past M.q t p l) ∙ (ap (M.plus 0) (times_zero M c h) ∙ M.field.plus_zero 0 (zero_code M)))) (cases_lt p 128);
    off = λ k p. absurd (omega arith);
  }

  -- nothing is to be done for 0, and for what is no code
  pub added_zero : c ≡ 0 → Added M (byte_row M.q s) c (byte_row M.q t) (byte_row M.q s)
  added_zero e = record {
    sums = λ h p. sym
        (ap (λ x. M.plus (byte_row M.q s p) (M.times x (byte_row M.q t p))) e ∙
        (ap (M.plus (byte_row M.q s p)) (zero_times M _ (row_below M.q t p (zero_code M))) ∙
        M.field.plus_zero _ (row_below M.q s p (zero_code M))));
    off = λ h p. refl;
  }

  pub added_off : M.q ≤ c → Added M (byte_row M.q s) c (byte_row M.q t) (byte_row M.q s)
  added_off l = record { sums = λ h p. absurd (omega arith); off = λ h p. refl }
