-- What holds of each record of a list, and of each two. Assumes nothing.
use Rattle.std.proofs.Common.{◌≡◌, ℕ, zero, suc, ◌<◌, Bool, true, false, cond, eqb, ◌≢◌, List, [], ◌∷◌, ◌++◌, length, refl, inl, inr, arith}
use mathlib.Core.List.Memᴰ
use Rattle.linear.specs.Sums.{fold}
use Rattle.patch.specs.Records.{Record, nth}
use Rattle.patch.specs.Paths.{Among}
use Rattle.patch.specs.Encoding.{unless_zero}
use Rattle.std.proofs.lemmas.Bool.{eqb-false, ne_eqb}

abbrev pub Each : (Record → Type 0) → List Record → Type 0
Each P [] = Unit
Each P (r ∷ rs) = P r × Each P rs

pub each_append : (P : Record → Type 0) (rs ss : List Record) → Each P rs → Each P ss → Each P (rs ++ ss)
each_append P [] ss a b = b
each_append P (r ∷ rs) ss a b = (a.0, each_append P rs ss a.1 b)

pub each_map : (P Q : Record → Type 0) → ((r : Record) → P r → Q r) → (rs : List Record) → Each P rs → Each Q rs
each_map P Q f [] a = tt
each_map P Q f (r ∷ rs) a = (f r a.0, each_map P Q f rs a.1)

pub each_gather : (P : Record → Type 0) (n : ℕ) (g : ℕ → List Record) → ((k : ℕ) → k < n → Each P (g k)) → Each P (fold [] ◌++◌ n g)
unfolding fold
each_gather P zero g e = tt
each_gather P (suc n) g e = each_append P (fold [] ◌++◌ n g) (g n) (each_gather P n g (λ k h. e k (omega arith))) (e n (omega arith))

pub each_unless : (P : Record → Type 0) (c : ℕ) (r : Record) → (c ≢ 0 → P r) → Each P (unless_zero c r)
each_unless P c r p = go (eqb c 0) refl
  where
    go : (b : Bool) → eqb c 0 ≡ b → Each P (cond b [] (r ∷ []))
    go true e = tt
    go false e = (p (eqb-false c 0 e), tt)

pub each_among : (P : Record → Type 0) (rs : List Record) → Each P rs → (r : Record) → Among r rs → P r
each_among P [] a r m = absurd (Memᴰ.not-nil m)
each_among P (s ∷ rs) a r m = elim (Memᴰ.cases_cons m) [ inl e ↦ rw e a.0 | inr n ↦ each_among P rs a.1 r n ]

pub among_unless : (c : ℕ) (r : Record) → c ≢ 0 → Among r (unless_zero c r)
among_unless c r n = rw (ne_eqb c 0 n) (Memᴰ.head refl)

pub each_nth : (P : Record → Type 0) (rs : List Record) (k : ℕ) → k < length rs → Each P rs → P (nth rs k)
each_nth P [] k h a = absurd (omega arith)
each_nth P (r ∷ rs) zero h a = a.0
each_nth P (r ∷ rs) (suc k) h a = each_nth P rs k (omega arith) a.1

-- each two, the earlier one first
abbrev pub Pairs : (Record → Record → Type 0) → List Record → Type 0
Pairs R [] = Unit
Pairs R (r ∷ rs) = Each (R r) rs × Pairs R rs

pub pairs_append : (R : Record → Record → Type 0) (rs ss : List Record) → Pairs R rs → Pairs R ss → Each (λ r. Each (R r) ss) rs → Pairs R (rs ++ ss)
pairs_append R [] ss a b e = b
pairs_append R (r ∷ rs) ss a b e = (each_append (R r) rs ss a.0 e.0, pairs_append R rs ss a.1 b e.1)

pub pairs_gather : (R : Record → Record → Type 0) (n : ℕ) (g : ℕ → List Record) → ((k : ℕ) → k < n → Pairs R (g k))
    → ((j k : ℕ) → j < k → k < n → Each (λ r. Each (R r) (g k)) (g j)) → Pairs R (fold [] ◌++◌ n g)
unfolding fold
pairs_gather R zero g a e = tt
pairs_gather R (suc n) g a e =
    pairs_append R (fold [] ◌++◌ n g) (g n) (pairs_gather R n g (λ k h. a k (omega arith)) (λ j k h l. e j k h (omega arith))) (a n (omega arith)) (
    each_gather (λ r. Each (R r) (g n)) n g (λ j h. e j n h (omega arith)))

pub pairs_unless : (R : Record → Record → Type 0) (c : ℕ) (r : Record) → Pairs R (unless_zero c r)
pairs_unless R c r = go (eqb c 0)
  where
    go : (b : Bool) → Pairs R (cond b [] (r ∷ []))
    go true = tt
    go false = (tt, tt)

pub pairs_nth : (R : Record → Record → Type 0) (rs : List Record) (j k : ℕ) → j < k → k < length rs → Pairs R rs → R (nth rs j) (nth rs k)
pairs_nth R [] j k h l a = absurd (omega arith)
pairs_nth R (r ∷ rs) zero zero h l a = absurd (omega arith)
pairs_nth R (r ∷ rs) zero (suc k) h l a = each_nth (R r) rs k (omega arith) a.0
pairs_nth R (r ∷ rs) (suc j) zero h l a = absurd (omega arith)
pairs_nth R (r ∷ rs) (suc j) (suc k) h l a = pairs_nth R rs j k (omega arith) (omega arith) a.1

pub nth_among : (rs : List Record) (k : ℕ) → k < length rs → Among (nth rs k) rs
nth_among [] k h = absurd (omega arith)
nth_among (r ∷ rs) zero h = Memᴰ.head refl
nth_among (r ∷ rs) (suc k) h = Memᴰ.tail (nth_among rs k (omega arith))
