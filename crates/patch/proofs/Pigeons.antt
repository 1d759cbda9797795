-- A map of the numbers below n into themselves that meets none twice meets each.
use Rattle.std.proofs.Common.{◌≡◌, ℕ, zero, suc, ◌<◌, cond, eqb, ◌⊎◌, sym, ◌∙◌, inl, inr, ⊎_elim, arith}
use Rattle.std.proofs.lemmas.Bool.{cases_eq}
use Rattle.std.proofs.lemmas.Bool.Decides.{nat_tests}

-- f with the value at n in the place of n
abbrev around : (ℕ → ℕ) → ℕ → ℕ → ℕ
around f n k = cond (eqb (f k) n) (f n) (f k)

-- which of the two it is
around_is : (f : ℕ → ℕ) (n k : ℕ) → ((f k ≡ n) × (around f n k ≡ f n)) ⊎ ((f k ≡ n → ⊥) × (around f n k ≡ f k))
around_is f n k = grind (arith, nat_tests)

pub pigeons : (n : ℕ) (f : ℕ → ℕ) → ((k : ℕ) → k < n → f k < n) →
    ((j k : ℕ) → j < n → k < n → f j ≡ f k → j ≡ k) → (v : ℕ) → v < n → (k : ℕ) × (k < n) × (f k ≡ v)
pigeons zero f into apart v h = absurd (omega arith)
pigeons (suc n) f into apart v h = ⊎_elim at_last (before (pigeons n (around f n) into' apart')) (cases_eq v (f n))
  where
    into' : (k : ℕ) → k < n → around f n k < n
    into' k l =
        let a : f k < suc n = into k (omega arith) in
        let b : f n < suc n = into n (omega arith) in
        let c : f k ≡ f n → k ≡ n = apart k n (omega arith) (omega arith) in
        elim (around_is f n k) [ inl p ↦ (let ne : f n ≡ n → ⊥ = λ e. (let z : k ≡ n = c (p.0 ∙ sym e) in omega arith) in omega (arith, p.1)) | inr p ↦ omega (arith, p.0, p.1) ]

    apart' : (j k : ℕ) → j < n → k < n → around f n j ≡ around f n k → j ≡ k
    apart' j k l m e =
        let cjk : f j ≡ f k → j ≡ k = apart j k (omega arith) (omega arith) in
        let cj : f j ≡ f n → j ≡ n = apart j n (omega arith) (omega arith) in
        let ck : f k ≡ f n → k ≡ n = apart k n (omega arith) (omega arith) in
        elim (around_is f n j) [
          | inl p ↦ elim (around_is f n k) [ inl r ↦ cjk (p.0 ∙ sym r.0) | inr r ↦ absurd (omega (arith, ck (sym r.1 ∙ (sym e ∙ p.1)))) ]
          | inr p ↦ elim (around_is f n k) [ inl r ↦ absurd (omega (arith, cj (sym p.1 ∙ (e ∙ r.1)))) | inr r ↦ cjk (sym p.1 ∙ (e ∙ r.1)) ]
        ]

    at_last : v ≡ f n → (k : ℕ) × (k < suc n) × (f k ≡ v)
    at_last e = (n, omega arith, sym e)

    -- n itself
    last : ((w : ℕ) → w < n → (k : ℕ) × (k < n) × (around f n k ≡ w)) → (v ≡ f n → ⊥) → v ≡ n → (k : ℕ) × (k < suc n) × (f k ≡ v)
    last found ne e =
        let b : f n < suc n = into n (omega arith) in
        let m = found (f n) (omega arith) in
        elim (around_is f n m.0) [
          | inl p ↦ (m.0, omega (arith, m.1), p.0 ∙ sym e)
          | inr p ↦ absurd (omega (arith, m.1, apart m.0 n (omega (arith, m.1)) (omega arith) (sym p.1 ∙ m.2)))
        ]

    other : ((w : ℕ) → w < n → (k : ℕ) × (k < n) × (around f n k ≡ w)) → (v ≡ f n → ⊥) → (v ≡ n → ⊥) → (k : ℕ) × (k < suc n) × (f k ≡ v)
    other found ne ne' =
        let m = found v (omega arith) in
        elim (around_is f n m.0) [
          | inl p ↦ absurd (ne (sym m.2 ∙ p.1))
          | inr p ↦ (m.0, omega (arith, m.1), sym p.1 ∙ m.2)
        ]

    before : ((w : ℕ) → w < n → (k : ℕ) × (k < n) × (around f n k ≡ w)) → (v ≡ f n → ⊥) → (k : ℕ) × (k < suc n) × (f k ≡ v)
    before found ne = ⊎_elim (last found ne) (other found ne) (cases_eq v n)
