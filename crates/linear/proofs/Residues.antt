-- Remainders by m: the laws of sums and products hold at any m. Where one computed test finds that every number below m but 0 has an inverse,
-- the numbers below m are a field. Assumes nothing.
use Rattle.std.proofs.Common.{◌≡◌, ℕ, ◌+◌, ◌-◌, ◌*◌, ◌/◌, ◌%◌, ◌<◌, Bool, true, false, ◌&&◌, ◌||◌, eqb, ltb, map, get_or, replicate, sym, ap, ◌∙◌, add-zero, add_assoc, mod-lt, mod-eq_of_lt, mul_assoc, mul_comm, add-mul, add_comm, mul-one, mul-add, arith}
use native.Mathlib.Nat.{div-add-mod, mul-add-mod_self_left, mod_self, mod-add-mod, add-mod-mod}
use lib.ListN.{get_or-replicate}
use Rattle.std.specs.List.{range_with_len}
use Rattle.std.proofs.lemmas.List.FromFn.{get_or-map-range_with_len}
use Rattle.std.proofs.lemmas.Bool.{ltb-true, eqb-true, ne_eqb, and_parts}
use Rattle.linear.specs.Codes.{CodeField}

abbrev pub plus_by : ℕ → ℕ → ℕ → ℕ
plus_by m a b = (a + b) % m

abbrev pub times_by : ℕ → ℕ → ℕ → ℕ
times_by m a b = (a * b) % m

abbrev pub neg_by : ℕ → ℕ → ℕ
neg_by m a = (m - a) % m

-- a factor may be reduced first
pub mod_mul : (a b m : ℕ) → (a % m * b) % m ≡ (a * b) % m
mod_mul a b m = sym (ap (λ x. x % m) apart ∙ mul-add-mod_self_left m (a / m * b) (a % m * b))
  where
    apart : a * b ≡ m * (a / m * b) + a % m * b
    apart = ap (λ x. x * b) (sym (div-add-mod a m)) ∙ (add-mul (m * (a / m)) (a % m) b ∙ ap (λ x. x + a % m * b) (mul_assoc m (a / m) b))

pub mul_mod : (a b m : ℕ) → (a * (b % m)) % m ≡ (a * b) % m
mul_mod a b m = ap (λ x. x % m) (mul_comm a (b % m)) ∙ (mod_mul b a m ∙ ap (λ x. x % m) (mul_comm b a))

module _ (m : ℕ) where
  pub plus_assoc : (a b c : ℕ) → plus_by m (plus_by m a b) c ≡ plus_by m a (plus_by m b c)
  plus_assoc a b c = mod-add-mod (a + b) m c ∙ (ap (λ x. x % m) (add_assoc a b c) ∙ sym (add-mod-mod a (b + c) m))

  pub times_assoc : (a b c : ℕ) → times_by m (times_by m a b) c ≡ times_by m a (times_by m b c)
  times_assoc a b c = mod_mul (a * b) c m ∙ (ap (λ x. x % m) (mul_assoc a b c) ∙ sym (mul_mod a (b * c) m))

  pub times_plus : (a b c : ℕ) → times_by m a (plus_by m b c) ≡ plus_by m (times_by m a b) (times_by m a c)
  times_plus a b c =
      mul_mod a (b + c) m ∙ (ap (λ x. x % m) (mul-add a b c) ∙ (sym (mod-add-mod (a * b) m (a * c)) ∙ sym (add-mod-mod ((a * b) % m) (a * c) m)))

  pub plus_neg : (a : ℕ) → a < m → plus_by m a (neg_by m a) ≡ 0
  plus_neg a h = let e : a + (m - a) ≡ m = omega arith in add-mod-mod a (m - a) m ∙ (ap (λ x. x % m) e ∙ mod_self m)

-- the answer for a is below m, and its product with a is 1 unless a is 0
abbrev pub undone : ℕ → (ℕ → ℕ) → ℕ → Bool
undone m inv a = ltb (inv a) m && (eqb a 0 || eqb (times_by m a (inv a)) 1)

-- the test at all numbers below m: `refl` closes it at a given m
abbrev pub AllUndone : ℕ → (ℕ → ℕ) → Type 0
AllUndone m inv = map (undone m inv) (range_with_len 0 m) ≡ replicate m true

pub residues : (m : ℕ) (inv : ℕ → ℕ) → 1 < m → AllUndone m inv → CodeField m (plus_by m) (times_by m) (neg_by m) inv
residues m inv two test = record {
  two = two;
  plus_code = λ a b _ _. mod-lt (a + b) some;
  times_code = λ a b _ _. mod-lt (a * b) some;
  neg_code = λ a _. mod-lt (m - a) some;
  inv_code = λ a h. ltb-true (inv a) m (at a h).0;
  plus_assoc = λ a b c _ _ _. plus_assoc m a b c;
  plus_comm = λ a b _ _. ap (λ x. x % m) (add_comm a b);
  plus_zero = λ a h. ap (λ x. x % m) (add-zero a) ∙ mod-eq_of_lt h;
  plus_neg = plus_neg m;
  times_assoc = λ a b c _ _ _. times_assoc m a b c;
  times_comm = λ a b _ _. ap (λ x. x % m) (mul_comm a b);
  times_one = λ a h. ap (λ x. x % m) (mul-one a) ∙ mod-eq_of_lt h;
  times_plus = λ a b c _ _ _. times_plus m a b c;
  times_inv = λ a h ne. let z : eqb a 0 ≡ false = ne_eqb a 0 ne in eqb-true (times_by m a (inv a)) 1 (rw z at (at a h).1);
}
  where
    some : 0 < m
    some = omega arith

    passed : (a : ℕ) → a < m → undone m inv a ≡ true
    passed a h =
        let e : 0 + a ≡ a = omega arith in
        sym (get_or-map-range_with_len (undone m inv) 0 m a a false h e) ∙ (ap (λ l. get_or l a false) test ∙ get_or-replicate m a true false h)

    at : (a : ℕ) → a < m → (ltb (inv a) m ≡ true) × ((eqb a 0 || eqb (times_by m a (inv a)) 1) ≡ true)
    at a h = and_parts (ltb (inv a) m) (eqb a 0 || eqb (times_by m a (inv a)) 1) (passed a h)
