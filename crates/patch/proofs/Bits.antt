-- Settings as numbers, and as what gives each input. Assumes nothing.
use Rattle.std.proofs.Common.{◌≡◌, ℕ, zero, suc, ◌+◌, ◌-◌, ◌*◌, ◌/◌, ◌%◌, ◌^◌, ◌<◌, ◌≤◌, Bool, true, false, cond, eqb, ◌≢◌, ◌↔◌, List, [], ◌∷◌, ◌++◌, map, length, sym, refl, ap, ◌∙◌, ap₂, inl, inr, mod-lt, arith, pow_pos, pow-add, shr-shr, shr_lt}
use lib.Arith.{digits_lt}
use lib.Pow.{high, low, field, mod-mod-pow}
use Rattle.std.proofs.lemmas.Bool.{cases_order}
use Rattle.linear.proofs.Codes.{fold_cong}
use Rattle.patch.specs.Records.{Record, records, declared, nth, reads, cells_of}
use Rattle.patch.specs.Faults.{Order, Patch}
use Rattle.patch.specs.Paths.{bit, target, on_from, off_from, starts, walks, paths, product, total, path_sum, rule}
use Rattle.patch.specs.Settings.{made}
use Rattle.patch.specs.Settled.{SameRule}
use Rattle.patch.proofs.Facts.{Facts, facts}
use Rattle.patch.proofs.Values.{target_known}

abbrev digit : ℕ → ℕ → ℕ
digit y i = y / 2 ^ i % 2

-- a digit below i sees only what is left by 2 ^ i
digit_low : (y j e : ℕ) → digit y j ≡ digit (y % 2 ^ (e + (1 + j))) j
digit_low y j e =
    sym (field y 1 j) ∙ ap (λ z. z / 2 ^ j) (sym (mod-mod-pow y e (1 + j))) ∙ field (y % 2 ^ (e + (1 + j))) 1 j

-- one above i only what is over
digit_high : (y i e : ℕ) → digit y (i + 1 + e) ≡ y / 2 ^ (i + 1) / 2 ^ e % 2
digit_high y i e = ap (λ z. z % 2) (sym (shr-shr y (i + 1) e))

half : (a v : ℕ) → v < 2 → (a * 2 + v) / 2 ≡ a
half a v h = omega arith

module _ (x i v : ℕ) (h : v < 2) where
  lo : x % 2 ^ i < 2 ^ i
  lo = mod-lt x (pow_pos i)

  made_shr : made x i v / 2 ^ i ≡ x / 2 ^ suc i * 2 + v
  made_shr = high (x / 2 ^ suc i * 2 + v) i lo

  made_mod : made x i v % 2 ^ i ≡ x % 2 ^ i
  made_mod = low (x / 2 ^ suc i * 2 + v) i lo

  made_here : digit (made x i v) i ≡ v
  made_here = rw made_shr (omega arith)

  made_over : made x i v / 2 ^ (i + 1) ≡ x / 2 ^ (i + 1)
  made_over =
      let s : suc i ≡ i + 1 = omega arith in
      sym (shr-shr (made x i v) i 1) ∙ ap (λ z. z / 2) made_shr ∙ half (x / 2 ^ suc i) v h ∙ ap (λ z. x / 2 ^ z) s

  made_other : (j : ℕ) → j ≢ i → digit (made x i v) j ≡ digit x j
  made_other j n =
      elim (cases_order j i) [
        | inl e ↦ absurd (n e)
        | inr (inl l) ↦
            let e : ℕ = i - suc j in
            let s : i ≡ e + (1 + j) = omega arith in
            digit_low (made x i v) j e ∙ ap (λ z. digit z j) (ap (λ z. made x i v % 2 ^ z) (sym s) ∙ made_mod ∙ ap (λ z. x % 2 ^ z) s) ∙ sym (digit_low x j e)
        | inr (inr l) ↦
            let e : ℕ = j - suc i in
            let s : j ≡ i + 1 + e = omega arith in
            ap (digit (made x i v)) s ∙ digit_high (made x i v) i e ∙ ap (λ z. z / 2 ^ e % 2) made_over ∙ sym (digit_high x i e) ∙ ap (digit x) (sym s)
      ]

  made_below : (n : ℕ) → i < n → x < 2 ^ n → made x i v < 2 ^ n
  made_below n l k =
      let e : ℕ = n - suc i in
      let s : n ≡ e + suc i = omega arith in
      let t : n ≡ (e + 1) + i = omega arith in
      let a : x / 2 ^ suc i < 2 ^ e = shr_lt e (suc i) (rw s at k) in
      let b : 2 ^ (e + 1) ≡ 2 ^ e * 2 = pow-add 2 e 1 in
      let c : x / 2 ^ suc i * 2 + v < 2 ^ (e + 1) = omega arith in
      rw (t, pow-add 2 (e + 1) i) (digits_lt c lo)

pub made_bit : (x i v : ℕ) → v < 2 → bit (made x i v) i ≡ eqb v 1
made_bit x i v h = ap (λ z. eqb z 1) (made_here x i v h)

pub made_bits : (x i v : ℕ) → v < 2 → (j : ℕ) → j ≢ i → bit (made x i v) j ≡ bit x j
made_bits x i v h j n = ap (λ z. eqb z 1) (made_other x i v h j n)

pub made_fits : (x i v : ℕ) → v < 2 → (n : ℕ) → i < n → x < 2 ^ n → made x i v < 2 ^ n
made_fits x i v h n l k = made_below x i v h n l k

-- the setting that some inputs make
number : (ℕ → Bool) → ℕ → ℕ
number x zero = 0
number x (suc n) = cond (x n) 1 0 * 2 ^ n + number x n

number_fits : (x : ℕ → Bool) (n : ℕ) → number x n < 2 ^ n
unfolding number
number_fits x zero = omega arith
number_fits x (suc n) = go (x n) (number_fits x n)
  where
    two : 2 ^ suc n ≡ 2 ^ n * 2
    two = let s : suc n ≡ n + 1 = omega arith in rw s (pow-add 2 n 1)

    go : (b : Bool) → number x n < 2 ^ n → cond b 1 0 * 2 ^ n + number x n < 2 ^ suc n
    go true h = omega (arith, two)
    go false h = omega (arith, two)

bit_of : (b : Bool) → eqb (cond b 1 0 % 2) 1 ≡ b
bit_of true = refl
bit_of false = refl

number_bit : (x : ℕ → Bool) (n i : ℕ) → i < n → bit (number x n) i ≡ x i
unfolding number
number_bit x zero i h = absurd (omega arith)
number_bit x (suc n) i h =
    elim (cases_order i n) [
      | inl e ↦ rw e (ap (λ z. eqb (z % 2) 1) (high (cond (x n) 1 0) n (number_fits x n)) ∙ bit_of (x n))
      | inr (inl l) ↦
          let e : ℕ = n - suc i in
          let s : n ≡ e + (1 + i) = omega arith in
          ap (λ z. eqb z 1) (
          digit_low (cond (x n) 1 0 * 2 ^ n + number x n) i e
          ∙ ap (λ z. digit z i) (ap (λ z. (cond (x n) 1 0 * 2 ^ n + number x n) % 2 ^ z) (sym s) ∙ low (cond (x n) 1 0) n (number_fits x n)))
          ∙ number_bit x n i l
      | inr (inr l) ↦ absurd (omega arith)
    ]

pub any_inputs : (n : ℕ) (x : ℕ → Bool) → (setting : ℕ) × (setting < 2 ^ n) × ((i : ℕ) → i < n → bit setting i ≡ x i)
any_inputs n x = (number x n, number_fits x n, number_bit x n)

-- a patch sees its inputs only
module _ (order : List ℕ) (q : ℕ) (rs : List Record) (A : Facts order q rs) (x y : ℕ → Bool) (same : (i : ℕ) → i < length order → x i ≡ y i) where
  same_walks : (d f : ℕ) → f ≤ cells_of rs → walks rs x d f ≡ walks rs y d f
  unfolding walks
  same_walks d zero l = refl
  same_walks zero (suc f) l = refl
  same_walks (suc d) (suc f) l =
      fold_cong [] ◌++◌ (length rs) _ _ (
      λ k h.
      ap₂ (λ (b : Bool) (ws : List (List ℕ)). cond b (map (◌∷◌ k) ws) []) (
      ap (λ (b : Bool). cond b (on_from (suc f) (nth rs k)) (off_from (suc f) (nth rs k))) (same (reads rs (suc f)) (A.input_is (suc f) (omega arith) l))) (
      same_walks d (target (nth rs k)) (target_known order q (declared [] rs) (nth rs k) (A.fine k))))

  pub same_paths : (n : ℕ) → paths rs n x ≡ paths rs n y
  unfolding paths
  same_paths n =
      fold_cong [] ◌++◌ (length rs) _ _ (
      λ k h.
      ap (λ (ws : List (List ℕ)). cond (starts (nth rs k)) (map (◌∷◌ k) ws) []) (
      same_walks n (target (nth rs k)) (target_known order q (declared [] rs) (nth rs k) (A.fine k))))

-- to agree at every setting is to agree at all inputs
module _ (plus times : ℕ → ℕ → ℕ) (order : List ℕ) (q : ℕ) (O : Order order) where
  at_inputs : (bytes : List ℕ) → Patch order q bytes → (x : ℕ → Bool)
      → path_sum plus times (records bytes) (length order) x ≡ rule plus times order bytes (any_inputs (length order) x).0
  at_inputs bytes p x =
      ap (λ ps. total plus (map (product times (records bytes)) ps)) (
      same_paths order q (records bytes) (facts order q bytes O p) x (bit (any_inputs (length order) x).0) (λ i h. sym ((any_inputs (length order) x).2 i h)) (length order))

  pub settings_inputs : (bytes others : List ℕ) → Patch order q bytes → Patch order q others
      → SameRule plus times order bytes others
      ↔ ((x : ℕ → Bool) → path_sum plus times (records bytes) (length order) x ≡ path_sum plus times (records others) (length order) x)
  settings_inputs bytes others p o = (
    λ s x. at_inputs bytes p x ∙ s (any_inputs (length order) x).0 (any_inputs (length order) x).1 ∙ sym (at_inputs others o x),
    λ e setting h. e (bit setting),
  )
