-- Where a form stands in a draft, and the draft of two forms.
use Rattle.std.proofs.Common.{◌≡◌, ℕ, ◌+◌, ◌-◌, ◌<◌, ◌≤◌, ◌≢◌, ◌⊎◌, None, List, length, get_or, sym, refl, ap, ◌∙◌, subst, inl, inr, arith}
use native.Mathlib.Decide.{dec_lt}
use Rattle.std.proofs.lemmas.Bool.{cases_eq, cond-false, ne_eqb}
use Rattle.linear.specs.Field.{Field}
use Rattle.diagram.specs.Calls.{Placed as Stands}
use Rattle.diagram.specs.Diagram.{Assignment, Diagram, Formed, rule}
use Rattle.diagram.specs.Passes.{rowed, along, Embeds}
use Rattle.diagram.proofs.Tying.{laid_formed, laid}
use Rattle.elimination.specs.Lift.{Element, scalars, up, vec, Grid}
use Rattle.elimination.proofs.Lifting.{up_is_zero}
use Rattle.elimination.proofs.Sums.{at}
use Rattle.patch.specs.Faults.{position}
use Rattle.patch.specs.Orders.{listed}
use Rattle.patch.specs.declared.order.ScanOrder.{ScanOrder}
use Rattle.scale.specs.Model.{ScaleModel}
use Rattle.settling.specs.Draft.{drafted}
use Rattle.strip.specs.Row.{Row}
use Rattle.drafting.specs.declared.form.FormView.{FormView}
use Rattle.drafting.specs.declared.part.Part.{Part}
use Rattle.drafting.specs.declared.plan.Plan.{Plan}
use Rattle.drafting.specs.Drafts.{Blank, draft_of}
use Rattle.drafting.specs.Forms.{place_of, PartOf, Apart, Copied, Free, Held}
use Rattle.drafting.specs.Meaning.{Drafts, form_of}
use Rattle.drafting.specs.Plan.{PlacedBy}
use Rattle.drafting.proofs.Moving.{size, along_blank, along_same, place_low, place_lent}

module _ (M : ScaleModel) {S : Type 0} (code : S → Row) (s : ScanOrder) (ps : List ℕ) (k : ℕ) (plan : Plan) (d : PlacedBy ps k (length (listed s)) plan.places plan.place) where
  abbrev F : Field (Element M)
  F = scalars M

  abbrev n : ℕ
  n = length (listed s)

  abbrev m : ℕ
  m = plan.places.cells

  abbrev pub diagram_in : List S → S → Diagram (Element M)
  diagram_in w out = drafted M code w plan.places.pos plan.places.cells (code out)

  -- what is known over n positions holds over those of the draft
  pub means : (w : List S) (out : S) (f : Assignment → Element M) → Formed F n (diagram_in w out) → ((a : Assignment) → rule F n (diagram_in w out) a ≡ f a)
      → Drafts M code w (draft_of plan out) n f
  means w out f formed same = record {
    over = d.steady;
    formed = subst (λ (i : ℕ). Formed F i (diagram_in w out)) (sym d.steady) formed;
    same = λ a. ap (λ (i : ℕ). rule F i (diagram_in w out) a) d.steady ∙ same a;
  }

  -- The form's cells are those of the plan from `from` on.
  module _ (form : FormView S) (from : ℕ) (part : Part) (lent : PartOf plan from (size form) part) (fits : from + size form ≤ k) (listed_at : (j : ℕ) → j < size form → get_or ps (from + j) 0 ≡ position (listed s) (get_or form.inputs.now j 0))
      (fP : Formed F n (form_of M code s form)) where
    abbrev P : Diagram (Element M)
    P = form_of M code s form

    abbrev ρ : ℕ → ℕ
    ρ = place_of part

    pub steady_first : fP.steady ≡ 0
    steady_first = elim (cases_eq fP.steady 0) [
      | inl e ↦ e
      | inr ne ↦ absurd (let h : n < n = fP.others 0 (omega arith) (λ e. ne (sym e)) in omega arith)
    ]

    cell_pos : (t : ℕ) → 0 < t → t ≤ size form → P.pos t ≡ get_or ps (from + t - 1) 0
    cell_pos t a b =
        let e : from + (t - 1) ≡ from + t - 1 = omega arith in
        cond-false _ _ _ (ne_eqb t 0 (λ z. omega arith)) ∙ sym (listed_at (t - 1) (omega arith)) ∙ ap (λ (i : ℕ). get_or ps i 0) e

    cell_place : (t : ℕ) → 0 < t → t ≤ size form → ρ t ≡ get_or plan.place (from + t - 1) 0
    cell_place = place_lent plan from (size form) part lent

    pub cell_low : (t : ℕ) → 0 < t → t ≤ size form → P.pos t < n
    cell_low t a b = fP.others t (omega arith) (λ e. omega (arith, steady_first))

    low : (t : ℕ) → 0 < t → t ≤ size form → get_or ps (from + t - 1) 0 < n
    low t a b = rw (← (cell_pos t a b)) (cell_low t a b)

    pub below : (t : ℕ) → 0 < t → t ≤ size form → ρ t < m
    below t a b = rw (cell_place t a b) (d.inside (from + t - 1) (omega arith) (low t a b))

    pub apart : Apart (size form) ρ
    apart i j a b a' b' e =
        let h : from + i - 1 ≡ from + j - 1 = d.apart (from + i - 1) (from + j - 1) (omega arith) (omega arith) (low i a b) (low j a' b') (sym (cell_place i a b) ∙ e ∙ cell_place j a' b') in
        omega arith

    place_pos : (t : ℕ) → t < size form + 1 → get_or plan.places.pos (ρ t) 0 ≡ P.pos t
    place_pos t l = elim (cases_eq t 0) [
      | inl e ↦ subst (λ (i : ℕ). get_or plan.places.pos (ρ i) 0 ≡ P.pos i) (sym e) (ap (λ (i : ℕ). get_or plan.places.pos i 0) lent.steady ∙ d.steady)
      | inr e ↦ let a : 0 < t = omega arith in let b : t ≤ size form = omega arith in
          ap (λ (i : ℕ). get_or plan.places.pos i 0) (cell_place t a b) ∙ d.at (from + t - 1) (omega arith) (low t a b) ∙ sym (cell_pos t a b)
    ]

    -- The places of a diagram with the form's positions, whose rows stand in the draft.
    pub embeds : (w : List S) (out : S) (off dif : ℕ → ℕ → Element M) (o : ℕ → Element M) → ((u : ℕ) → off 0 u ≡ F.zero) → ((u : ℕ) → dif 0 u ≡ F.zero)
        → ((u : ℕ) → Grid M code w 0 m u ≡ F.zero) → ((u : ℕ) → Grid M code w 128 m u ≡ F.zero)
        → ((t : ℕ) → 0 < t → t ≤ size form → (u : ℕ) → Grid M code w 0 (ρ t) u ≡ along F (size form + 1) ρ (off t) u)
        → ((t : ℕ) → 0 < t → t ≤ size form → (u : ℕ) → Grid M code w 128 (ρ t) u ≡ along F (size form + 1) ρ (dif t) u)
        → Embeds F (rowed P off dif o) (diagram_in w out) ρ
    embeds w out off dif o off_none dif_none off_last dif_last offs difs = record {
      inside = λ t l. omega (arith, place_low part t, lent.steady);
      pos = place_pos;
      off = λ t u l _. row 0 off off_none off_last offs t u l;
      dif = λ t u l _. row 128 dif dif_none dif_last difs t u l;
    }
      where
        row : (area : ℕ) (r : ℕ → ℕ → Element M) → ((u : ℕ) → r 0 u ≡ F.zero) → ((u : ℕ) → Grid M code w area m u ≡ F.zero)
            → ((t : ℕ) → 0 < t → t ≤ size form → (u : ℕ) → Grid M code w area (ρ t) u ≡ along F (size form + 1) ρ (r t) u) → (t u : ℕ) → t < size form + 1
            → Grid M code w area (ρ t) u ≡ along F (size form + 1) ρ (r t) u
        row area r none last rows t u l = elim (cases_eq t 0) [
          | inl e ↦ subst (λ (i : ℕ). Grid M code w area (ρ i) u ≡ along F (size form + 1) ρ (r i) u) (sym e) (ap (λ (h : ℕ). Grid M code w area h u) lent.steady ∙ last u ∙ sym (along_blank F ρ (size form + 1) (r 0) (λ v _. none v) u))
          | inr e ↦ rows t (omega arith) (omega arith) u
        ]

    -- the rows of the form's own cells
    pub row_is : (t : ℕ) → 0 < t → (v : ℕ) → P.dif t v ≡ Grid M code form.strips.now 0 t v
    row_is t a v = cond-false _ _ _ (ne_eqb t 0 (λ z. omega arith))

    -- a cell of the plan is one of the form's, if it is among them
    pub stands : (i t : ℕ) → from ≤ i → i < from + size form → get_or plan.place i 0 ≡ t → Stands P ρ t
    stands i t a b e =
        let h : from + (i - from + 1) - 1 ≡ i = omega arith in
        (i - from + 1, omega arith, cell_place (i - from + 1) (omega arith) (omega arith) ∙ ap (λ (j : ℕ). get_or plan.place j 0) h ∙ e)

  -- Two forms, one after the other: the rows are blank, then those of the first form are copied, then those of the second.
  module _ (len : ℕ) (a b : FormView S) (pa pb : Part) (lent_a : PartOf plan 0 (size a) pa) (lent_b : PartOf plan (size a) (size b) pb) (all : k ≡ size a + size b) (short : plan.places.cells < len)
      (at_a : (j : ℕ) → j < size a → get_or ps (0 + j) 0 ≡ position (listed s) (get_or a.inputs.now j 0))
      (at_b : (j : ℕ) → j < size b → get_or ps (size a + j) 0 ≡ position (listed s) (get_or b.inputs.now j 0))
      (w₁ w₂ w₃ : List S) (blank : Blank code w₁ plan.places.cells)
      (copied_a : Copied M code len pa a 128 (Free a None) (size a + 1) w₁ w₂) (kept_a : Copied M code len pa a 0 (Held a None) (size a + 1) w₁ w₂)
      (copied_b : Copied M code len pb b 128 (Free b None) (size b + 1) w₂ w₃) (kept_b : Copied M code len pb b 0 (Held b None) (size b + 1) w₂ w₃)
      (fP : Formed F n (form_of M code s a)) (fQ : Formed F n (form_of M code s b)) where
    fits_a : 0 + size a ≤ k
    fits_a = omega arith

    fits_b : size a + size b ≤ k
    fits_b = omega arith

    few : plan.places.cells < 128
    few = let h = plan.places.few in omega arith

    -- no cell of one stands where a cell of the other does
    other : (i j : ℕ) → 0 < i → i ≤ size a → 0 < j → j ≤ size b → place_of pa i ≢ place_of pb j
    other i j l h l' h' e =
        let z : 0 + i - 1 ≡ size a + j - 1 =
        d.apart (0 + i - 1) (size a + j - 1) (omega arith) (omega arith) (low a 0 pa lent_a fits_a at_a fP i l h) (low b (size a) pb lent_b fits_b at_b fQ j l' h')
        (sym (cell_place a 0 pa lent_a fits_a at_a fP i l h) ∙ e ∙ cell_place b (size a) pb lent_b fits_b at_b fQ j l' h') in
        omega arith

    off_blank : (h : ℕ) → h ≤ plan.places.cells → (u : ℕ) → Grid M code w₃ 0 h u ≡ F.zero
    off_blank h l u = up_is_zero M (at (kept_b.rest h (omega arith) (λ i _ _ none. absurd none) ∙ kept_a.rest h (omega arith) (λ i _ _ none. absurd none) ∙ blank.off h l) u)

    last_blank : (u : ℕ) → Grid M code w₃ 128 plan.places.cells u ≡ F.zero
    last_blank u =
        up_is_zero M (
        at (copied_b.rest plan.places.cells few (λ i l h _ e. (let z = below b (size a) pb lent_b fits_b at_b fQ i l (omega arith) in omega arith))
        ∙ copied_a.rest plan.places.cells few (λ i l h _ e. (let z = below a 0 pa lent_a fits_a at_a fP i l (omega arith) in omega arith)) ∙ blank.dif plan.places.cells (omega arith)) u)

    dif_a : (t : ℕ) → 0 < t → t ≤ size a → (u : ℕ) → Grid M code w₃ 128 (place_of pa t) u ≡ along F (size a + 1) (place_of pa) ((form_of M code s a).dif t) u
    dif_a t l h u =
        ap (up M) (at (copied_b.rest (place_of pa t) (omega (arith, place_low pa t, lent_a.steady)) (λ i l' h' _ e. other t i l h l' (omega arith) e)) u)
        ∙ copied_a.rows (omega (arith, lent_a.steady)) (apart a 0 pa lent_a fits_a at_a fP) t l (omega arith) tt u
        ∙ along_same F (place_of pa) (size a + 1) _ _ (λ v _. sym (row_is a 0 pa lent_a fits_a at_a fP t l v)) u

    dif_b : (t : ℕ) → 0 < t → t ≤ size b → (u : ℕ) → Grid M code w₃ 128 (place_of pb t) u ≡ along F (size b + 1) (place_of pb) ((form_of M code s b).dif t) u
    dif_b t l h u =
        copied_b.rows (omega (arith, lent_b.steady)) (apart b (size a) pb lent_b fits_b at_b fQ) t l (omega arith) tt u
        ∙ along_same F (place_of pb) (size b + 1) _ _ (λ v _. sym (row_is b (size a) pb lent_b fits_b at_b fQ t l v)) u

    off_rows : (count : ℕ) (part : Part) → part.steady ≡ plan.places.cells → (t u : ℕ) → Grid M code w₃ 0 (place_of part t) u ≡ along F (count + 1) (place_of part) (λ _. F.zero) u
    off_rows count part is t u = off_blank (place_of part t) (omega (arith, place_low part t)) u ∙ sym (along_blank F (place_of part) (count + 1) _ (λ _ _. refl) u)

    module _ (out : S) where
      first : Embeds F (form_of M code s a) (diagram_in w₃ out) (place_of pa)
      first =
          embeds a 0 pa lent_a fits_a at_a fP w₃ out (form_of M code s a).off (form_of M code s a).dif (form_of M code s a).out (λ u. refl) (λ u. refl) (off_blank plan.places.cells (omega arith)) last_blank
          (λ t _ _. off_rows (size a) pa lent_a.steady t) dif_a

      second : Embeds F (form_of M code s b) (diagram_in w₃ out) (place_of pb)
      second =
          embeds b (size a) pb lent_b fits_b at_b fQ w₃ out (form_of M code s b).off (form_of M code s b).dif (form_of M code s b).out (λ u. refl) (λ u. refl) (off_blank plan.places.cells (omega arith))
          last_blank (λ t _ _. off_rows (size b) pb lent_b.steady t) dif_b

      whole : (t : ℕ) → t < plan.places.cells + 1 → Stands (form_of M code s a) (place_of pa) t ⊎ Stands (form_of M code s b) (place_of pb) t
      whole t l = elim (cases_eq t plan.places.cells) [
        | inl e ↦ inl (0, omega arith, lent_a.steady ∙ sym e)
        | inr e ↦ cell (d.onto t (omega arith))
      ]
        where
          cell : (i : ℕ) × (i < k) × (get_or ps i 0 < n) × (get_or plan.place i 0 ≡ t) → Stands (form_of M code s a) (place_of pa) t ⊎ Stands (form_of M code s b) (place_of pb) t
          cell (i, li, _, e) = elim (dec_lt i (size a)) [
            | yes h ↦ inl (stands a 0 pa lent_a fits_a at_a fP i t (omega arith) (omega arith) e)
            | no h ↦ inr (stands b (size a) pb lent_b fits_b at_b fQ i t (omega arith) (omega arith) e)
          ]

      sum_formed : Formed F n (diagram_in w₃ out)
      sum_formed =
          laid_formed F n (form_of M code s a) (form_of M code s b) (diagram_in w₃ out) (place_of pa) (place_of pb) fP fQ first second
          (ap (place_of pa) (steady_first a 0 pa lent_a fits_a at_a fP) ∙ lent_a.steady ∙ sym (ap (place_of pb) (steady_first b (size a) pb lent_b fits_b at_b fQ) ∙ lent_b.steady)) whole

      -- the draft of the sum of the first form and c times the second
      pub sum_means : (c : ℕ)
          → ((u : ℕ) → vec M (code out) u
          ≡ F.plus (along F (size a + 1) (place_of pa) (Grid M code a.strips.now 0 0) u) (F.times (up M c) (along F (size b + 1) (place_of pb) (Grid M code b.strips.now 0 0) u)))
          → Drafts M code w₃ (draft_of plan out) n (λ x. F.plus (rule F n (form_of M code s a) x) (F.times (up M c) (rule F n (form_of M code s b) x)))
      sum_means c outlet =
          means w₃ out _ sum_formed (
          laid F n (form_of M code s a) (form_of M code s b) (diagram_in w₃ out) (place_of pa) (place_of pb) (up M c) fP fQ sum_formed first second (λ u _. outlet u))
