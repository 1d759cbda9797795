-- The rows of a form's cells, put at their places one after the other.
use Rattle.std.proofs.Common.{◌≡◌, ℕ, suc, ◌+◌, ◌-◌, ◌<◌, ◌≤◌, Bool, true, false, true≢false, ◌≢◌, Option, None, Some, List, ◌∷◌, length, get_or, sym, refl, ap, ◌∙◌, subst, inl, inr, arith}
use Rattle.std.proofs.lemmas.Bool.{cases_eq}
use Rattle.elimination.specs.Rows.{Rows, RowSet, Outside}
use Rattle.scale.specs.Model.{ScaleModel}
use Rattle.strip.specs.Row.{Row}
use Rattle.drafting.specs.declared.form.FormView.{FormView}
use Rattle.drafting.specs.declared.part.Part.{Part}
use Rattle.drafting.specs.Forms.{place_of, Moved, Copied, Free, Held}

module _ {S : Type 0} (code : S → Row) where
  pub outside_same : (w : List S) (area size : ℕ) → Outside code w area size w
  outside_same w area size = record { before = λ _ _ _. refl; after = λ _ _ _. refl }

  -- both areas of a draft's rows together
  pub off_outside : (w w' : List S) → Outside code w 0 128 w' → Outside code w 0 256 w'
  off_outside w w' o = record { before = λ b k l. o.before b k l; after = λ b k l. o.after b k (omega arith) }

  pub dif_outside : (w w' : List S) → Outside code w 128 128 w' → Outside code w 0 256 w'
  dif_outside w w' o = record { before = λ b k l. o.before b k (omega arith); after = λ b k l. o.after b k (omega arith) }

module _ (M : ScaleModel) {S : Type 0} (code : S → Row) (len : ℕ) (part : Part) (form : FormView S) (area : ℕ) (chosen : ℕ → Type 0) (w : List S) where
  pub none_copied : Copied M code len part form area chosen 1 w w
  none_copied = record { rows = λ _ _ i a b. absurd (omega arith); rest = λ _ _ _. refl }

  module _ (w₁ w₂ : List S) (last : ℕ) (C : Copied M code len part form area chosen last w w₁) (some : 0 < last) (few : last ≤ length form.inputs.now) where
    -- the row of a chosen cell is put at its place
    pub one_copied : (h : ℕ) (f r : Row) → RowSet (Rows code w₁ area) h f (Rows code w₂ area) → h ≡ place_of part last → chosen last
        → Rows code form.strips.now 0 last ≡ r → (part.steady < len → Moved M (length form.inputs.now) (place_of part) r f)
        → Copied M code len part form area chosen (last + 1) w w₂
    one_copied h f r set is ch row_is moved = record {
      rows = λ low apart i a b d. elim (cases_eq i last) [
        | inl e ↦ subst (λ (j : ℕ). Moved M (length form.inputs.now) (place_of part) (Rows code form.strips.now 0 j) (Rows code w₂ area (place_of part j))) (sym e) (
            subst (λ (x : Row). Moved M (length form.inputs.now) (place_of part) (Rows code form.strips.now 0 last) x) (sym set.here ∙ ap (Rows code w₂ area) is) (
            subst (λ (x : Row). Moved M (length form.inputs.now) (place_of part) x f) (sym row_is) (moved low)))
        | inr e ↦ subst (λ (r : Row). Moved M (length form.inputs.now) (place_of part) (Rows code form.strips.now 0 i) r) (
            sym (set.rest (place_of part i) (λ z. e (apart i last a (omega arith) some few (z ∙ is))))) (C.rows low apart i a (omega arith) d)
      ];
      rest = λ k b others. set.rest k (λ z. others last some (omega arith) ch (z ∙ is)) ∙ C.rest k b (λ i a l d. others i a (omega arith) d);
    }

    -- a cell that is not chosen is passed over
    pub none_more : (chosen last → ⊥) → ((k : ℕ) → k < 128 → Rows code w₂ area k ≡ Rows code w₁ area k) → ((i : ℕ) → place_of part i < 128)
        → Copied M code len part form area chosen (last + 1) w w₂
    none_more not kept low = record {
      rows = λ fits apart i a b d. elim (cases_eq i last) [
        | inl e ↦ absurd (not (subst chosen e d))
        | inr e ↦ subst (λ (r : Row). Moved M (length form.inputs.now) (place_of part) (Rows code form.strips.now 0 i) r) (sym (kept (place_of part i) (low i))) (
            C.rows fits apart i a (omega arith) d)
      ];
      rest = λ k b others. kept k b ∙ C.rest k b (λ i a l d. others i a (omega arith) d);
    }

-- The cells of a form are gone through: t is the next of them, and `rest` is what it and those after it read.
pub record Next (inputs : List ℕ) (t : ℕ) (rest : List ℕ) : Type 0 where
  pub some : 0 < t
  pub long : t + length rest ≡ length inputs + 1
  pub at : (i : ℕ) → get_or inputs (t - 1 + i) 0 ≡ get_or rest i 0

pub next_first : (inputs : List ℕ) → Next inputs 1 inputs
next_first inputs = record { some = omega arith; long = omega arith; at = λ i. ap (λ (k : ℕ). get_or inputs k 0) (omega arith) }

module _ {inputs rest : List ℕ} {t : ℕ} (N : Next inputs t rest) where
  pub next_last : length rest ≡ 0 → t ≡ length inputs + 1
  next_last none = omega (arith, N.long)

  module _ (x : ℕ) (more : List ℕ) (first : rest ≡ x ∷ more) where
    pub next_within : t ≤ length inputs
    next_within = omega (arith, N.long, ap length first)

    pub next_reads : get_or inputs (t - 1) 0 ≡ x
    next_reads = ap (λ (k : ℕ). get_or inputs k 0) (omega arith) ∙ N.at 0 ∙ ap (λ (l : List ℕ). get_or l 0 0) first

    pub next_more : Next inputs (t + 1) more
    next_more = record {
      some = omega arith;
      long = omega (arith, N.long, ap length first);
      at = λ i. ap (λ (k : ℕ). get_or inputs k 0) (omega (arith, N.some)) ∙ N.at (suc i) ∙ ap (λ (l : List ℕ). get_or l (suc i) 0) first;
    }

-- whether the row of cell t, which reads an input, is one that stands at once, or one that stands for good
module _ {S : Type 0} (form : FormView S) (t : ℕ) where
  -- no input is tied
  pub free_none : (tied : Option (ℕ × Bool)) → ((x : ℕ × Bool) → tied ≡ Some x → ⊥) → Free form tied t
  free_none None none = tt
  free_none (Some x) none = absurd (none x refl)

  pub held_none : (tied : Option (ℕ × Bool)) → ((x : ℕ × Bool) → tied ≡ Some x → ⊥) → Held form tied t → ⊥
  held_none None none h = h
  held_none (Some x) none h = none x refl

  module _ (tied : Option (ℕ × Bool)) (input : ℕ) (on : Bool) (is : tied ≡ Some (input, on)) where
    pub free : get_or form.inputs.now (t - 1) 0 ≢ input → Free form tied t
    free ne = subst (λ (x : Option (ℕ × Bool)). Free form x t) (sym is) ne

    pub not_free : get_or form.inputs.now (t - 1) 0 ≡ input → Free form tied t → ⊥
    not_free e h = subst (λ (x : Option (ℕ × Bool)). Free form x t) is h e

    pub held : get_or form.inputs.now (t - 1) 0 ≡ input → on ≡ true → Held form tied t
    held e o = subst (λ (x : Option (ℕ × Bool)). Held form x t) (sym is) (e, o)

    pub other_not_held : get_or form.inputs.now (t - 1) 0 ≢ input → Held form tied t → ⊥
    other_not_held ne h = let k = subst (λ (x : Option (ℕ × Bool)). Held form x t) is h in ne k.0

    pub off_not_held : on ≡ false → Held form tied t → ⊥
    off_not_held f h = let k = subst (λ (x : Option (ℕ × Bool)). Held form x t) is h in true≢false (sym k.1 ∙ f)
