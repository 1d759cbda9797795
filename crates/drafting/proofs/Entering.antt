-- One record entered into the rows of a draft: what is added to a row, as an element of the field.
use Rattle.std.proofs.Common.{◌≡◌, ℕ, ◌+◌, ◌<◌, List, sym, refl, ap, ◌∙◌, ap₂, arith}
use mathlib.Core.Logic.{ite}
use native.Mathlib.Decide.{ℕ_discrete}
use Rattle.linear.specs.Codes.{code_eq, coded, codes}
use Rattle.linear.proofs.Codes.{coded_number}
use Rattle.linear.proofs.Ring.{zero_plus, neg_zero}
use Rattle.std.proofs.lemmas.Bool.{cond-true, lt-ltb}
use Rattle.scale.specs.Model.{ScaleModel, at_code}
use Rattle.strip.specs.Row.{Row}
use Rattle.elimination.specs.Arithmetic.{plus_is}
use Rattle.elimination.specs.Lift.{Element, scalars, some_code, up, Grid}
use Rattle.elimination.specs.Rows.{Rows, Outside}
use Rattle.elimination.proofs.Grids.{rows_coded}
use Rattle.elimination.proofs.Lifting.{up_plus}
use Rattle.patch.specs.Records.{filler, cell, off, on, outlet}
use Rattle.drafting.specs.Arcs.{only, Entered}
use Rattle.drafting.specs.Drafts.{AddedAt, AddedIn}

module _ (M : ScaleModel) where
  pub up_more : (x y : ℕ) → x < M.q → y < M.q → up M (M.plus x y) ≡ (scalars M).plus (up M x) (up M y)
  up_more x y l k = ap (up M) (sym (plus_is M x y l k)) ∙ up_plus M x y l k

  pub up_neg : (x : ℕ) → x < M.q → up M (M.neg x) ≡ (scalars M).neg (up M x)
  unfolding up scalars codes
  up_neg x l = code_eq (coded_number (some_code M) (M.neg x) (M.field.neg_code x l) ∙ ap M.neg (sym (coded_number (some_code M) x l)))

  pub only_zero : (v u : ℕ) → only M v u (scalars M).zero ≡ (scalars M).zero
  only_zero v u = go (ℕ_discrete u v)
    where
      go : (d : Dec (u ≡ v)) → ite d (scalars M).zero (scalars M).zero ≡ (scalars M).zero
      go (yes e) = refl
      go (no e) = refl

  -- nothing was brought
  pub still : (x : Element M) (v u : ℕ) (y : Element M) → y ≡ (scalars M).zero → x ≡ (scalars M).plus x (only M v u y)
  still x v u y e = sym (ap (λ z. (scalars M).plus x (only M v u z)) e ∙ ap ((scalars M).plus x) (only_zero v u) ∙ (scalars M).plus_zero x)

  pub no_dif : (scalars M).plus (scalars M).zero ((scalars M).neg (scalars M).zero) ≡ (scalars M).zero
  no_dif = (scalars M).plus_neg (scalars M).zero

  -- one code added at a place
  pub added_at : (len : ℕ) (f : Row) (v c : ℕ) (g : Row) → AddedAt M len f v c g → v < len → c < M.q → ((p : ℕ) → f p < M.q) → (u : ℕ)
      → up M (g u) ≡ (scalars M).plus (up M (f u)) (only M v u (up M c))
  added_at len f v c g a l k coded u = go (ℕ_discrete u v)
    where
      go : (d : Dec (u ≡ v)) → up M (g u) ≡ (scalars M).plus (up M (f u)) (ite d (up M c) (scalars M).zero)
      go (yes e) = ap (λ (p : ℕ). up M (g p)) e ∙ ap (up M) (a.here l k) ∙ up_more (f v) c (coded v) k ∙ ap (λ (p : ℕ). (scalars M).plus (up M (f p)) (up M c)) (sym e)
      go (no n) = ap (up M) (a.rest u n) ∙ sym ((scalars M).plus_zero (up M (f u)))

  pub added_in : (len : ℕ) (R : ℕ → Row) (h v c : ℕ) (R' : ℕ → Row) → AddedIn M len R h v c R' → v < len → c < M.q → ((j p : ℕ) → R j p < M.q) → (j u : ℕ)
      → up M (R' j u) ≡ (scalars M).plus (up M (R j u)) (only M v u (only M h j (up M c)))
  added_in len R h v c R' a l k coded j u = go (ℕ_discrete j h)
    where
      go : (d : Dec (j ≡ h)) → up M (R' j u) ≡ (scalars M).plus (up M (R j u)) (only M v u (ite d (up M c) (scalars M).zero))
      go (yes e) =
          ap (λ (i : ℕ). up M (R' i u)) e ∙ added_at len (R h) v c (R' h) a.row l k (coded h) u
          ∙ ap (λ (i : ℕ). (scalars M).plus (up M (R i u)) (only M v u (up M c))) (sym e)
      go (no n) = ap (λ (r : Row). up M (r u)) (a.rest j n) ∙ still (up M (R j u)) v u (scalars M).zero refl

  -- off counts against dif, and on for it
  off_dif : (v h c : ℕ) → c < M.q → only M v h (up M (M.neg c)) ≡ (scalars M).plus (scalars M).zero ((scalars M).neg (only M v h (up M c)))
  off_dif v h c l = go (ℕ_discrete h v) ∙ sym (zero_plus (scalars M) _)
    where
      go : (d : Dec (h ≡ v)) → ite d (up M (M.neg c)) (scalars M).zero ≡ (scalars M).neg (ite d (up M c) (scalars M).zero)
      go (yes e) = up_neg c l
      go (no n) = sym (neg_zero (scalars M))

  pub on_dif : (x : Element M) → x ≡ (scalars M).plus x ((scalars M).neg (scalars M).zero)
  on_dif x = sym (ap ((scalars M).plus x) (neg_zero (scalars M)) ∙ (scalars M).plus_zero x)

  module _ {S : Type 0} (code : S → Row) (law : (s : S) (p : ℕ) → code s p < M.q) (len : ℕ) (ρ : ℕ → ℕ) where
    all_coded : (w : List S) (base j p : ℕ) → Rows code w base j p < M.q
    all_coded w base j p = rows_coded code M.q (some_code M) law w base j p

    pub entered_outlet : (t c : ℕ) (w : List S) (o o' : Row) → AddedAt M len o (ρ t) c o' → ρ t < len → c < M.q → ((p : ℕ) → o p < M.q) → Entered M code ρ (outlet t c) w o w o'
    entered_outlet t c w o o' a l k below = record {
      off = λ h u l. still _ _ _ _ refl;
      dif = λ h u l. still _ _ _ _ no_dif;
      out = added_at len o (ρ t) c o' a l k below;
    }

    module _ (m : ℕ) (low : m < 128) (f t c : ℕ) (to : ρ t < len) (few : c < M.q) (o : Row) where
      pub entered_on : (w w' : List S) → AddedIn M len (Rows code w 128) (ρ f) (ρ t) c (Rows code w' 128) → Outside code w 128 (m + 1) w'
          → Entered M code ρ (on f t c) w o w' o
      entered_on w w' a out = record {
        off = λ h u l. ap (λ (r : Row). up M (r u)) (out.before 0 h (omega arith)) ∙ still _ _ _ _ refl;
        dif = λ h u l.
            added_in len (Rows code w 128) (ρ f) (ρ t) c (Rows code w' 128) a to few (all_coded w 128) h u
            ∙ ap (λ x. (scalars M).plus (Grid M code w 128 h u) (only M (ρ t) u x)) (on_dif (only M (ρ f) h (up M c)));
        out = λ u. still _ _ _ _ refl;
      }

      pub entered_off : (w w₁ w₂ : List S) (d : ℕ) → d ≡ at_code M.q M.neg c
          → AddedIn M len (Rows code w 0) (ρ f) (ρ t) c (Rows code w₁ 0) → Outside code w 0 (m + 1) w₁
          → AddedIn M len (Rows code w₁ 128) (ρ f) (ρ t) d (Rows code w₂ 128) → Outside code w₁ 128 (m + 1) w₂
          → Entered M code ρ (off f t c) w o w₂ o
      entered_off w w₁ w₂ d negative a₁ out₁ a₂ out₂ = record {
        off = λ h u l.
            ap (λ (r : Row). up M (r u)) (out₂.before 0 h (omega arith))
            ∙ added_in len (Rows code w 0) (ρ f) (ρ t) c (Rows code w₁ 0) a₁ to few (all_coded w 0) h u;
        dif = λ h u l.
            added_in len (Rows code w₁ 128) (ρ f) (ρ t) d (Rows code w₂ 128) a₂ to (rw neg (M.field.neg_code c few)) (all_coded w₁ 128) h u
            ∙ ap₂ (λ (r : Row) x. (scalars M).plus (up M (r u)) (only M (ρ t) u x)) (out₁.after 128 h (omega arith)) (
            ap (λ (e : ℕ). only M (ρ f) h (up M e)) neg ∙ off_dif (ρ f) h c few);
        out = λ u. still _ _ _ _ refl;
      }
        where
          neg : d ≡ M.neg c
          neg = negative ∙ cond-true _ _ _ (lt-ltb c M.q few)

    -- a filler and a cell bring nothing
    pub enter_filler : (w : List S) (o : Row) → Entered M code ρ filler w o w o
    enter_filler w o = record { off = λ h u l. still _ _ _ _ refl; dif = λ h u l. still _ _ _ _ no_dif; out = λ u. still _ _ _ _ refl }

    pub enter_cell : (i : ℕ) (w : List S) (o : Row) → Entered M code ρ (cell i) w o w o
    enter_cell i w o = record { off = λ h u l. still _ _ _ _ refl; dif = λ h u l. still _ _ _ _ no_dif; out = λ u. still _ _ _ _ refl }

    pub enter_outlet : (t c : ℕ) (w : List S) (o o' : Row) → AddedAt M len o (ρ t) c o' → ρ t < len → c < M.q → ((p : ℕ) → o p < M.q) → Entered M code ρ (outlet t c) w o w o'
    enter_outlet = entered_outlet

    -- the arcs, where nothing changes outside of as many rows as hold the one that they come from
    module _ (f t c : ℕ) (low : ρ f < 128) (to : ρ t < len) (few : c < M.q) (o : Row) where
      pub enter_on : (w w' : List S) → AddedIn M len (Rows code w 128) (ρ f) (ρ t) c (Rows code w' 128) → ((n : ℕ) → ρ f < n → Outside code w 128 n w')
          → Entered M code ρ (on f t c) w o w' o
      enter_on w w' a out = entered_on (ρ f) low f t c to few o w w' a (out (ρ f + 1) (omega arith))

      pub enter_off : (w w₁ w₂ : List S) (d : ℕ) → d ≡ M.neg c
          → AddedIn M len (Rows code w 0) (ρ f) (ρ t) c (Rows code w₁ 0) → ((n : ℕ) → ρ f < n → Outside code w 0 n w₁)
          → AddedIn M len (Rows code w₁ 128) (ρ f) (ρ t) d (Rows code w₂ 128) → ((n : ℕ) → ρ f < n → Outside code w₁ 128 n w₂)
          → Entered M code ρ (off f t c) w o w₂ o
      enter_off w w₁ w₂ d neg a₁ out₁ a₂ out₂ =
          entered_off (ρ f) low f t c to few o w w₁ w₂ d (neg ∙ sym (cond-true _ _ _ (lt-ltb c M.q few))) a₁ (out₁ (ρ f + 1) (omega arith)) a₂ (out₂ (ρ f + 1) (omega arith))
