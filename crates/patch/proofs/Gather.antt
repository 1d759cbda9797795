-- Lists joined one after the other: g 0 ++ .. ++ g (n - 1). Assumes nothing.
use Rattle.std.proofs.Common.{◌≡◌, ℕ, zero, suc, ◌<◌, Bool, true, false, cond, ◌⊎◌, List, [], ◌∷◌, ◌++◌, map, sym, refl, ◌∙◌, inl, inr, arith}
use mathlib.Core.List.Memᴰ
use mathlib.Core.List.{Memᴰ, head-eq_of_cons-eq, tail-eq_of_cons-eq}
use native.Mathlib.Decide.{ℕ_discrete}
use Rattle.linear.specs.Sums.{fold}
use Rattle.patch.specs.Paths.{Among, Distinct}

module _ {A : Type 0} (g : ℕ → List A) where
  pub gather_mem : (n k : ℕ) (p : A) → k < n → Among p (g k) → Among p (fold [] ◌++◌ n g)
  unfolding fold
  gather_mem zero k p h m = absurd (omega arith)
  gather_mem (suc n) k p h m =
      elim (ℕ_discrete k n) [
        | yes e ↦ Memᴰ.append_right (fold [] ◌++◌ n g) (rw (← e) m)
        | no e ↦ Memᴰ.append_left (g n) (gather_mem n k p (omega arith) m)
      ]

  pub mem_gather : (n : ℕ) (p : A) → Among p (fold [] ◌++◌ n g) → (k : ℕ) × (k < n) × Among p (g k)
  unfolding fold
  mem_gather zero p m = absurd (Memᴰ.not-nil m)
  mem_gather (suc n) p m = go (Memᴰ.append_cases (fold [] ◌++◌ n g) m) (mem_gather n p)
    where
      go : Among p (fold [] ◌++◌ n g) ⊎ Among p (g n) → (Among p (fold [] ◌++◌ n g) → (k : ℕ) × (k < n) × Among p (g k)) → (k : ℕ) × (k < suc n) × Among p (g k)
      go (inl a) ih = let r = ih a in (r.0, omega (arith, r.1), r.2)
      go (inr b) ih = (n, omega arith, b)

pub distinct_append : (xs ys : List (List ℕ)) → Distinct xs → Distinct ys → ((p : List ℕ) → Among p xs → Among p ys → ⊥) → Distinct (xs ++ ys)
distinct_append [] ys dx dy apart = dy
distinct_append (x ∷ xs) ys dx dy apart = (
  λ m. elim (Memᴰ.append_cases xs m) [ inl a ↦ dx.0 a | inr b ↦ apart x (Memᴰ.head refl) b ],
  distinct_append xs ys dx.1 dy (λ p a b. apart p (Memᴰ.tail a) b),
)

pub distinct_gather : (g : ℕ → List (List ℕ)) (n : ℕ) → ((k : ℕ) → k < n → Distinct (g k))
    → ((p : List ℕ) (j k : ℕ) → Among p (g j) → Among p (g k) → j ≡ k) → Distinct (fold [] ◌++◌ n g)
unfolding fold
distinct_gather g zero d one = tt
distinct_gather g (suc n) d one =
    distinct_append (fold [] ◌++◌ n g) (g n) (distinct_gather g n (λ k h. d k (omega arith)) one) (d n (omega arith)) (
    λ p a b. let r = mem_gather g n p a in omega (arith, r.1, one p r.0 n r.2 b))

pub distinct_map : (k : ℕ) (ws : List (List ℕ)) → Distinct ws → Distinct (map (◌∷◌ k) ws)
distinct_map k [] d = tt
distinct_map k (w ∷ ws) d = (
  λ m.
      let r = Memᴰ.of_map (◌∷◌ k) ws m in
      d.0 (Memᴰ.cast (sym (tail-eq_of_cons-eq r.2)) r.1),
  distinct_map k ws d.1,
)

-- what begins with k
pub headed : (b : Bool) (k : ℕ) (ws : List (List ℕ)) (p : List ℕ) → Among p (cond b (map (◌∷◌ k) ws) [])
    → (b ≡ true) × ((r : List ℕ) × Among r ws × (k ∷ r ≡ p))
headed true k ws p m = (refl, Memᴰ.of_map (◌∷◌ k) ws m)
headed false k ws p m = absurd (Memᴰ.not-nil m)

pub distinct_cond : (b : Bool) (xs : List (List ℕ)) → Distinct xs → Distinct (cond b xs [])
distinct_cond true xs d = d
distinct_cond false xs d = tt

-- lists of which the k-th has only members that begin with k
pub distinct_headed : (b : ℕ → Bool) (ws : ℕ → List (List ℕ)) (n : ℕ) → ((k : ℕ) → k < n → Distinct (ws k))
    → Distinct (fold [] ◌++◌ n (λ k. cond (b k) (map (◌∷◌ k) (ws k)) []))
distinct_headed b ws n d =
    distinct_gather (λ k. cond (b k) (map (◌∷◌ k) (ws k)) []) n (λ k h. distinct_cond (b k) _ (distinct_map k (ws k) (d k h))) (
    λ p j k m l. head-eq_of_cons-eq ((headed (b j) j (ws j) p m).1.2 ∙ sym (headed (b k) k (ws k) p l).1.2))
