-- Rows of a draft hold nothing past its last place, whatever is put into them below it.
use Rattle.std.proofs.Common.{◌≡◌, ℕ, ◌+◌, ◌<◌, ◌≤◌, List, sym, ap, ◌∙◌, ap₂, inl, inr, arith}
use Rattle.std.proofs.lemmas.Bool.{cases_eq}
use Rattle.scale.specs.Model.{ScaleModel}
use Rattle.strip.specs.Row.{Row}
use Rattle.elimination.specs.Lift.{Inside}
use Rattle.elimination.specs.Arithmetic.{Arithmetic}
use Rattle.elimination.specs.Rows.{Rows, RowSet, Outside, added}
use Rattle.elimination.proofs.Sums.{at, times_zero, zero_code}
use Rattle.settling.specs.Draft.{Bounded, Ordered}
use Rattle.drafting.specs.Drafts.{AddedIn, Ends}
use Rattle.drafting.specs.Plan.{Placed}

module _ (m : ℕ) (R R' : ℕ → Row) (I : Inside (m + 1) R) (h : ℕ) where
  pub inside_set : (f : Row) → RowSet R h f R' → Ends m f → Inside (m + 1) R'
  inside_set f s e k p l b = elim (cases_eq k h) [
    | inl same ↦ at (ap R' same ∙ s.here) p ∙ e p (omega arith)
    | inr other ↦ at (s.rest k other) p ∙ I k p l b
  ]

  pub inside_added : (M : ScaleModel) (len place c : ℕ) → AddedIn M len R h place c R' → place ≤ m → Inside (m + 1) R'
  inside_added M len place c s low k p l b = elim (cases_eq k h) [
    | inl same ↦ at (ap R' same) p ∙ s.row.rest p (λ e. omega arith) ∙ at (ap R (sym same)) p ∙ I k p l b
    | inr other ↦ at (s.rest k other) p ∙ I k p l b
  ]

module _ {S : Type 0} (code : S → Row) (w w' : List S) (m h : ℕ) (few : m < 128) (low : h ≤ m) (B : Bounded code w m) where
  pub dif_stored : (f : Row) → RowSet (Rows code w 128) h f (Rows code w' 128) → ((n : ℕ) → h < n → Outside code w 128 n w') → Ends m f → Bounded code w' m
  dif_stored f s o e = record {
    off = λ k p l b. at ((o 128 (omega arith)).before 0 k (omega arith)) p ∙ B.off k p l b;
    dif = inside_set m (Rows code w 128) (Rows code w' 128) B.dif h f s e;
  }

  pub off_stored : (f : Row) → RowSet (Rows code w 0) h f (Rows code w' 0) → ((n : ℕ) → h < n → Outside code w 0 n w') → Ends m f → Bounded code w' m
  off_stored f s o e = record {
    off = inside_set m (Rows code w 0) (Rows code w' 0) B.off h f s e;
    dif = λ k p l b. at ((o 128 (omega arith)).after 128 k (omega arith)) p ∙ B.dif k p l b;
  }

  pub dif_added : (M : ScaleModel) (len place c : ℕ) → AddedIn M len (Rows code w 128) h place c (Rows code w' 128) → Outside code w 128 (m + 1) w' → place ≤ m → Bounded code w' m
  dif_added M len place c s o l = record {
    off = λ k p a b. at (o.before 0 k (omega arith)) p ∙ B.off k p a b;
    dif = inside_added m (Rows code w 128) (Rows code w' 128) B.dif h M len place c s l;
  }

  pub off_added : (M : ScaleModel) (len place c : ℕ) → AddedIn M len (Rows code w 0) h place c (Rows code w' 0) → Outside code w 0 (m + 1) w' → place ≤ m → Bounded code w' m
  off_added M len place c s o l = record {
    off = inside_added m (Rows code w 0) (Rows code w' 0) B.off h M len place c s l;
    dif = λ k p a b. at (o.after 128 k (omega arith)) p ∙ B.dif k p a b;
  }

-- a sum of rows that hold nothing past m holds nothing past m
pub ends_added : (F : Arithmetic) (m : ℕ) (f : Row) (c : ℕ) (t g : Row) → g ≡ added F f c t → Ends m f → Ends m t → Ends m g
ends_added F m f c t g e a b p l =
    at e p ∙ ap₂ F.plus (a p l) (ap (F.times c) (b p l) ∙ times_zero F c) ∙ F.plus_zero 0 (zero_code F)

-- a plan's positions are in order
pub ordered : (ps : List ℕ) (k n m : ℕ) (pos place : List ℕ) → Placed ps k n m pos place → Ordered m pos
ordered ps k n m pos place d = record { cells = λ t l. omega (arith, d.cells t l, d.steady); rising = d.rising }
