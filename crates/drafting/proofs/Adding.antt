-- The records of a patch entered one after the other into blank rows.
use Rattle.std.proofs.Common.{◌≡◌, ℕ, suc, ◌+◌, ◌<◌, List, [], ◌∷◌, length, sym, ap, ◌∙◌, subst, arith}
use Rattle.linear.specs.Field.{Field}
use Rattle.linear.specs.Sums.{fold, sum}
use Rattle.scale.specs.Model.{ScaleModel}
use Rattle.strip.specs.Row.{Row, zeros}
use Rattle.elimination.specs.Lift.{scalars, up}
use Rattle.elimination.proofs.Lifting.{up_zero}
use Rattle.patch.specs.Records.{Record, nth}
use Rattle.drafting.specs.Arcs.{off_part, dif_part, out_part, Entered, Summed}
use Rattle.drafting.specs.Drafts.{Blank}

sum_next : {K : Type 0} (F : Field K) (k : ℕ) (f : ℕ → K) → F.plus (sum F k f) (f k) ≡ sum F (k + 1) f
unfolding fold
sum_next F k f = let s : suc k ≡ k + 1 = omega arith in ap (λ (j : ℕ). sum F j f) s

module _ (M : ScaleModel) {S : Type 0} (code : S → Row) (ρ : ℕ → ℕ) (rs : List Record) (m : ℕ) where
  pub summed_none : (w : List S) (o : Row) → Blank code w m → o ≡ zeros → Summed M code ρ rs 0 m w o
  unfolding fold
  summed_none w o blank out = record {
    off = λ h u l. ap (λ (r : Row). up M (r u)) (blank.off h l) ∙ up_zero M;
    dif = λ h u l. ap (λ (r : Row). up M (r u)) (blank.dif h l) ∙ up_zero M;
    out = λ u. ap (λ (r : Row). up M (r u)) out ∙ up_zero M;
  }

  pub summed_more : m < 128 → (k : ℕ) (r : Record) → r ≡ nth rs k → (w : List S) (o : Row) (w' : List S) (o' : Row) → Entered M code ρ r w o w' o' → Summed M code ρ rs k m w o
      → Summed M code ρ rs (k + 1) m w' o'
  summed_more few k r is w o w' o' entered s =
      let e = subst (λ (x : Record). Entered M code ρ x w o w' o') is entered in
      record {
        off = λ h u l. e.off h u (omega arith) ∙ ap (λ x. (scalars M).plus x (off_part M ρ (nth rs k) h u)) (s.off h u l) ∙ sum_next (scalars M) k (λ i. off_part M ρ (nth rs i) h u);
        dif = λ h u l. e.dif h u (omega arith) ∙ ap (λ x. (scalars M).plus x (dif_part M ρ (nth rs k) h u)) (s.dif h u l) ∙ sum_next (scalars M) k (λ i. dif_part M ρ (nth rs i) h u);
        out = λ u. e.out u ∙ ap (λ x. (scalars M).plus x (out_part M ρ (nth rs k) u)) (s.out u) ∙ sum_next (scalars M) k (λ i. out_part M ρ (nth rs i) u);
      }

-- The same where the records are taken off one after the other: k of them are entered, and `left` is to come.
pub record Adding (M : ScaleModel) {S : Type 0} (code : S → Row) (ρ : ℕ → ℕ) (rs : List Record) (m : ℕ) (w : List S) (o : Row) (left : List Record) : Type 0 where
  pub k : ℕ
  pub long : k + length left ≡ length rs
  pub at : (j : ℕ) → nth rs (k + j) ≡ nth left j
  pub sums : Summed M code ρ rs k m w o

module _ {M : ScaleModel} {S : Type 0} {code : S → Row} {ρ : ℕ → ℕ} {rs : List Record} {m : ℕ} {w : List S} {o : Row} where
  pub adding_starts : Summed M code ρ rs 0 m w o → Adding M code ρ rs m w o rs
  adding_starts s = record { k = 0; long = omega arith; at = λ j. ap (nth rs) (omega arith); sums = s }

  module _ {left : List Record} (A : Adding M code ρ rs m w o left) where
    pub adding_ends : left ≡ [] → Summed M code ρ rs (length rs) m w o
    adding_ends none = subst (λ (k : ℕ). Summed M code ρ rs k m w o) (omega (arith, A.long, ap length none)) A.sums

    module _ (r : Record) (more : List Record) (first : left ≡ r ∷ more) where
      pub adding_next : r ≡ nth rs A.k
      adding_next = sym (ap (nth rs) (omega arith) ∙ A.at 0 ∙ ap (λ (l : List Record). nth l 0) first)

      pub adding_more : m < 128 → (w' : List S) (o' : Row) → Entered M code ρ r w o w' o' → Adding M code ρ rs m w' o' more
      adding_more few w' o' entered = record {
        k = A.k + 1;
        long = omega (arith, A.long, ap length first);
        at = λ j. ap (nth rs) (omega arith) ∙ A.at (suc j) ∙ ap (λ (l : List Record). nth l (suc j)) first;
        sums = summed_more M code ρ rs m few A.k r adding_next w o w' o' entered A.sums;
      }
