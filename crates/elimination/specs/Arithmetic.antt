-- A scale's operations at every number, and not at codes alone: a number that is no code counts as 0.
-- So the laws hold of every number, and only the units ask for a code. All of it follows from what a scale shows of itself.
use Rattle.std.specs.Prelude.{◌≡◌, ℕ, ◌<◌, ◌≤◌, ◌≢◌, refl}
use Rattle.std.proofs.Math.Path.{sym, ap, ap₂}
use Rattle.std.proofs.Common.{◌∙◌, arith}
use Rattle.std.proofs.Math.Decide.{dec_lt}
use Rattle.scale.specs.Model.{ScaleModel}

pub record Arithmetic : Type 0 where
  pub q : ℕ
  pub plus : ℕ → ℕ → ℕ
  pub times : ℕ → ℕ → ℕ
  pub neg : ℕ → ℕ
  pub inv : ℕ → ℕ
  pub one_code : 1 < q
  pub plus_code : (a b : ℕ) → plus a b < q
  pub times_code : (a b : ℕ) → times a b < q
  pub neg_code : (a : ℕ) → neg a < q
  pub inv_code : (a : ℕ) → inv a < q
  pub plus_comm : (a b : ℕ) → plus a b ≡ plus b a
  pub plus_assoc : (a b c : ℕ) → plus (plus a b) c ≡ plus a (plus b c)
  pub plus_neg : (a : ℕ) → plus (neg a) a ≡ 0
  pub plus_zero : (a : ℕ) → a < q → plus 0 a ≡ a
  pub times_comm : (a b : ℕ) → times a b ≡ times b a
  pub times_assoc : (a b c : ℕ) → times (times a b) c ≡ times a (times b c)
  pub times_plus : (a b c : ℕ) → times a (plus b c) ≡ plus (times a b) (times a c)
  pub times_one : (a : ℕ) → a < q → times 1 a ≡ a
  pub times_inv : (a : ℕ) → a < q → a ≢ 0 → times (inv a) a ≡ 1
  pub times_off : (a b : ℕ) → q ≤ a → times a b ≡ 0
  pub neg_off : (a : ℕ) → q ≤ a → neg a ≡ 0
  pub inv_off : (a : ℕ) → q ≤ a → inv a ≡ 0

-- what a number counts as
unfoldable pub read : ℕ → ℕ → ℕ
read q a = elim (dec_lt a q) [ yes _ ↦ a | no _ ↦ 0 ]

unfoldable pub plus_all : ScaleModel → ℕ → ℕ → ℕ
plus_all M a b = M.plus (read M.q a) (read M.q b)

unfoldable pub times_all : ScaleModel → ℕ → ℕ → ℕ
times_all M a b = M.times (read M.q a) (read M.q b)

unfoldable pub neg_all : ScaleModel → ℕ → ℕ
neg_all M a = M.neg (read M.q a)

unfoldable pub inv_all : ScaleModel → ℕ → ℕ
inv_all M a = M.inv (read M.q a)

-- Their laws.
pub read_is : (q a : ℕ) → a < q → read q a ≡ a
unfolding read
read_is q a l = elim (dec_lt a q) as (λ d. (elim d [ yes _ ↦ a | no _ ↦ 0 ]) ≡ a) [ yes _ ↦ refl | no n ↦ absurd (n l) ]

pub read_off : (q a : ℕ) → q ≤ a → read q a ≡ 0
unfolding read
read_off q a l = elim (dec_lt a q) as (λ d. (elim d [ yes _ ↦ a | no _ ↦ 0 ]) ≡ 0) [ yes k ↦ absurd (omega arith) | no _ ↦ refl ]

pub read_code : (q a : ℕ) → 0 < q → read q a < q
read_code q a z = elim (dec_lt a q) [
  | yes k ↦ rw (read_is q a k) k
  | no k ↦ let l : q ≤ a = omega arith in rw (read_off q a l) z
]

module _ (M : ScaleModel) where
  abbrev n : ℕ → ℕ
  n = read M.q

  pub zero_in : 0 < M.q
  zero_in = let h : 1 < M.q = M.field.two in omega arith

  k : (a : ℕ) → n a < M.q
  k a = read_code M.q a zero_in

  same : (a : ℕ) → a < M.q → n a ≡ a
  same a l = read_is M.q a l

  off : (a : ℕ) → M.q ≤ a → n a ≡ 0
  off a l = read_off M.q a l

  pc : (a b : ℕ) → M.plus (n a) (n b) < M.q
  pc a b = M.field.plus_code (n a) (n b) (k a) (k b)

  tc : (a b : ℕ) → M.times (n a) (n b) < M.q
  tc a b = M.field.times_code (n a) (n b) (k a) (k b)

  -- of codes: nothing added, and nothing multiplied
  zero_plus : (a : ℕ) → a < M.q → M.plus 0 a ≡ a
  zero_plus a l = M.field.plus_comm 0 a zero_in l ∙ M.field.plus_zero a l

  neg_zero : M.neg 0 ≡ 0
  neg_zero = sym (zero_plus (M.neg 0) (M.field.neg_code 0 zero_in)) ∙ M.field.plus_neg 0 zero_in

  cancel : (a b : ℕ) → a < M.q → b < M.q → M.plus a b ≡ b → a ≡ 0
  cancel a b ha hb e =
      let hn : M.neg b < M.q = M.field.neg_code b hb in
      sym (M.field.plus_zero a ha) ∙ ap (M.plus a) (sym (M.field.plus_neg b hb)) ∙ sym (M.field.plus_assoc a b (M.neg b) ha hb hn)
      ∙ ap (λ x. M.plus x (M.neg b)) e ∙ M.field.plus_neg b hb

  times_zero : (a : ℕ) → a < M.q → M.times a 0 ≡ 0
  times_zero a l =
      let t : M.times a 0 < M.q = M.field.times_code a 0 l zero_in in
      cancel (M.times a 0) (M.times a 0) t t (sym (M.field.times_plus a 0 0 l zero_in zero_in) ∙ ap (M.times a) (zero_plus 0 zero_in))

  zero_times : (a : ℕ) → a < M.q → M.times 0 a ≡ 0
  zero_times a l = M.field.times_comm 0 a zero_in l ∙ times_zero a l

  -- at codes they are the scale's own
  pub plus_is : (a b : ℕ) → a < M.q → b < M.q → plus_all M a b ≡ M.plus a b
  unfolding plus_all
  plus_is a b ha hb = ap₂ M.plus (same a ha) (same b hb)

  pub times_is : (a b : ℕ) → a < M.q → b < M.q → times_all M a b ≡ M.times a b
  unfolding times_all
  times_is a b ha hb = ap₂ M.times (same a ha) (same b hb)

  pub neg_is : (a : ℕ) → a < M.q → neg_all M a ≡ M.neg a
  unfolding neg_all
  neg_is a ha = ap M.neg (same a ha)

  pub inv_is : (a : ℕ) → a < M.q → inv_all M a ≡ M.inv a
  unfolding inv_all
  inv_is a ha = ap M.inv (same a ha)

  pub plus_all_code : (a b : ℕ) → plus_all M a b < M.q
  unfolding plus_all
  plus_all_code = pc

  pub times_all_code : (a b : ℕ) → times_all M a b < M.q
  unfolding times_all
  times_all_code = tc

  pub neg_all_code : (a : ℕ) → neg_all M a < M.q
  unfolding neg_all
  neg_all_code a = M.field.neg_code (n a) (k a)

  pub inv_all_code : (a : ℕ) → inv_all M a < M.q
  unfolding inv_all
  inv_all_code a = M.field.inv_code (n a) (k a)

  pub plus_all_comm : (a b : ℕ) → plus_all M a b ≡ plus_all M b a
  unfolding plus_all
  plus_all_comm a b = M.field.plus_comm (n a) (n b) (k a) (k b)

  pub plus_all_assoc : (a b c : ℕ) → plus_all M (plus_all M a b) c ≡ plus_all M a (plus_all M b c)
  unfolding plus_all
  plus_all_assoc a b c =
      ap (λ x. M.plus x (n c)) (same _ (pc a b)) ∙ M.field.plus_assoc (n a) (n b) (n c) (k a) (k b) (k c) ∙ ap (M.plus (n a)) (sym (same _ (pc b c)))

  pub plus_all_neg : (a : ℕ) → plus_all M (neg_all M a) a ≡ 0
  unfolding plus_all neg_all
  plus_all_neg a =
      let hn : M.neg (n a) < M.q = M.field.neg_code (n a) (k a) in
      ap (λ x. M.plus x (n a)) (same _ hn) ∙ M.field.plus_comm (M.neg (n a)) (n a) hn (k a) ∙ M.field.plus_neg (n a) (k a)

  pub plus_all_zero : (a : ℕ) → a < M.q → plus_all M 0 a ≡ a
  plus_all_zero a l = plus_is 0 a zero_in l ∙ zero_plus a l

  pub times_all_comm : (a b : ℕ) → times_all M a b ≡ times_all M b a
  unfolding times_all
  times_all_comm a b = M.field.times_comm (n a) (n b) (k a) (k b)

  pub times_all_assoc : (a b c : ℕ) → times_all M (times_all M a b) c ≡ times_all M a (times_all M b c)
  unfolding times_all
  times_all_assoc a b c =
      ap (λ x. M.times x (n c)) (same _ (tc a b)) ∙ M.field.times_assoc (n a) (n b) (n c) (k a) (k b) (k c) ∙ ap (M.times (n a)) (sym (same _ (tc b c)))

  pub times_all_plus : (a b c : ℕ) → times_all M a (plus_all M b c) ≡ plus_all M (times_all M a b) (times_all M a c)
  unfolding plus_all times_all
  times_all_plus a b c =
      ap (M.times (n a)) (same _ (pc b c)) ∙ M.field.times_plus (n a) (n b) (n c) (k a) (k b) (k c) ∙ sym (ap₂ M.plus (same _ (tc a b)) (same _ (tc a c)))

  pub times_all_one : (a : ℕ) → a < M.q → times_all M 1 a ≡ a
  times_all_one a l = times_is 1 a M.field.two l ∙ M.field.times_comm 1 a M.field.two l ∙ M.field.times_one a l

  pub times_all_inv : (a : ℕ) → a < M.q → a ≢ 0 → times_all M (inv_all M a) a ≡ 1
  times_all_inv a l m =
      let hi : M.inv a < M.q = M.field.inv_code a l in
      ap (λ x. times_all M x a) (inv_is a l) ∙ times_is (M.inv a) a hi l ∙ M.field.times_comm (M.inv a) a hi l ∙ M.field.times_inv a l m

  pub times_all_off : (a b : ℕ) → M.q ≤ a → times_all M a b ≡ 0
  unfolding times_all
  times_all_off a b l = ap (λ x. M.times x (n b)) (off a l) ∙ zero_times (n b) (k b)

  pub neg_all_off : (a : ℕ) → M.q ≤ a → neg_all M a ≡ 0
  unfolding neg_all
  neg_all_off a l = ap M.neg (off a l) ∙ neg_zero

  pub inv_all_off : (a : ℕ) → M.q ≤ a → inv_all M a ≡ 0
  unfolding inv_all
  inv_all_off a l = ap M.inv (off a l) ∙ M.inv_zero

  abbrev pub arithmetic : Arithmetic
  arithmetic = record {
    q = M.q;
    plus = plus_all M;
    times = times_all M;
    neg = neg_all M;
    inv = inv_all M;
    one_code = M.field.two;
    plus_code = plus_all_code;
    times_code = times_all_code;
    neg_code = neg_all_code;
    inv_code = inv_all_code;
    plus_comm = plus_all_comm;
    plus_assoc = plus_all_assoc;
    plus_neg = plus_all_neg;
    plus_zero = plus_all_zero;
    times_comm = times_all_comm;
    times_assoc = times_all_assoc;
    times_plus = times_all_plus;
    times_one = times_all_one;
    times_inv = times_all_inv;
    times_off = times_all_off;
    neg_off = neg_all_off;
    inv_off = inv_all_off;
  }
