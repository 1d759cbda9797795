-- The draft of a form in which an input is tied: the rows of the cells that read it stand for good if it is on, and are blank if it is off.
use Rattle.std.proofs.Common.{◌≡◌, ℕ, ◌+◌, ◌-◌, ◌<◌, ◌≤◌, Bool, true, false, cond, eqb, ◌≢◌, Some, List, length, get_or, sym, refl, ap, ◌∙◌, subst, inl, inr, arith}
use native.Mathlib.Decide.{dec_lt}
use Rattle.std.proofs.lemmas.Bool.{cases_eq, cond-true, cond-false, eq-eqb, ne_eqb, true≢false}
use Rattle.linear.specs.Field.{Field}
use Rattle.linear.proofs.Ring.{zero_times}
use Rattle.diagram.specs.Calls.{Placed as Stands}
use Rattle.diagram.specs.Diagram.{Diagram, Formed, bit, rule, turn}
use Rattle.diagram.specs.Passes.{rowed, along, Embeds, Ties}
use Rattle.diagram.proofs.Tying.{tied_formed, tied_rule, moved_formed, moved_rule}
use Rattle.elimination.specs.Lift.{Element, scalars, vec, Grid}
use Rattle.elimination.specs.Rows.{Rows}
use Rattle.elimination.proofs.Lifting.{up_is_zero}
use Rattle.elimination.proofs.Sums.{at}
use Rattle.patch.specs.Faults.{position}
use Rattle.patch.specs.Orders.{listed}
use Rattle.patch.specs.declared.order.ScanOrder.{ScanOrder}
use Rattle.patch.proofs.Orders.{lawful, listed_length, position_high}
use Rattle.scale.specs.Model.{ScaleModel}
use Rattle.strip.specs.Row.{Row, zeros}
use Rattle.drafting.specs.declared.form.FormView.{FormView}
use Rattle.drafting.specs.declared.part.Part.{Part}
use Rattle.drafting.specs.declared.plan.Plan.{Plan}
use Rattle.drafting.specs.Drafts.{Blank, draft_of}
use Rattle.drafting.specs.Forms.{place_of, PartOf, Apart, Copied, Free, Held}
use Rattle.drafting.specs.Meaning.{Drafts, form_of}
use Rattle.drafting.specs.Plan.{PlacedBy}
use Rattle.drafting.proofs.Laying as lay
use Rattle.drafting.proofs.Moving.{size, along_blank, along_same, place_low}

-- inputs of one position are one
pub same_input : (s : ScanOrder) (x y : ℕ) → y < length (listed s) → position (listed s) x ≡ position (listed s) y → x ≡ y
same_input s x y l e = elim (dec_lt x (length (listed s))) [
  | yes h ↦ sym ((lawful s).there x h) ∙ ap (λ (p : ℕ). get_or (listed s) p 0) e ∙ (lawful s).there y l
  | no h ↦ absurd (let z = (lawful s).placed y l in let r = position_high s x (omega (arith, listed_length s)) in omega (arith, listed_length s))
]

module _ (M : ScaleModel) {S : Type 0} (code : S → Row) (s : ScanOrder) (ps : List ℕ) (plan : Plan) (form : FormView S) (part : Part) (lent : PartOf plan 0 (size form) part)
    (d : PlacedBy ps (size form) (length (listed s)) plan.places plan.place) (len : ℕ) (short : plan.places.cells < len)
    (listed_at : (j : ℕ) → j < size form → get_or ps (0 + j) 0 ≡ position (listed s) (get_or form.inputs.now j 0)) (input : ℕ) (on : Bool) (known : input < length (listed s))
    (w₁ w₂ : List S) (blanked : Blank code w₁ plan.places.cells)
    (copied_dif : Copied M code len part form 128 (Free form (Some (input, on))) (size form + 1) w₁ w₂) (copied_off : Copied M code len part form 0 (Held form (Some (input, on))) (size form + 1) w₁ w₂)
    (fP : Formed (scalars M) (length (listed s)) (form_of M code s form)) where
  abbrev F : Field (Element M)
  F = scalars M

  abbrev n : ℕ
  n = length (listed s)

  abbrev P : Diagram (Element M)
  P = form_of M code s form

  abbrev ρ : ℕ → ℕ
  ρ = place_of part

  abbrev q : ℕ
  q = position (listed s) input

  fits : 0 + size form ≤ size form
  fits = omega arith

  q_low : q < n
  q_low = (lawful s).placed input known

  abbrev tied_off : ℕ → ℕ → Element M
  tied_off t u = cond (eqb (P.pos t) q) (F.times (bit F on) (P.dif t u)) F.zero

  abbrev tied_dif : ℕ → ℕ → Element M
  tied_dif t u = cond (eqb (P.pos t) q) F.zero (P.dif t u)

  ties : Ties F P q on tied_off tied_dif
  ties = record {
    off_here = λ t u _ _ e. cond-true _ _ _ (eq-eqb _ _ e) ∙ sym (F.plus_comm _ _ ∙ F.plus_zero _);
    dif_here = λ t u _ _ e. cond-true _ _ _ (eq-eqb _ _ e);
    off_other = λ t u _ _ e. cond-false _ _ _ (ne_eqb _ _ e);
    dif_other = λ t u _ _ e. cond-false _ _ _ (ne_eqb _ _ e);
  }

  apart : Apart (size form) ρ
  apart = lay.apart M code s ps (size form) plan d form 0 part lent fits listed_at fP

  below : (t : ℕ) → 0 < t → t ≤ size form → ρ t < plan.places.cells
  below = lay.below M code s ps (size form) plan d form 0 part lent fits listed_at fP

  row_is : (t : ℕ) → 0 < t → (v : ℕ) → P.dif t v ≡ Grid M code form.strips.now 0 t v
  row_is = lay.row_is M code s ps (size form) plan d form 0 part lent fits listed_at fP

  -- whether a cell reads the input
  reads : (t : ℕ) → 0 < t → P.pos t ≡ q → get_or form.inputs.now (t - 1) 0 ≡ input
  reads t a e = same_input s _ input known (sym (cond-false _ _ _ (ne_eqb t 0 (λ z. omega arith))) ∙ e)

  reads_not : (t : ℕ) → 0 < t → P.pos t ≢ q → get_or form.inputs.now (t - 1) 0 ≢ input
  reads_not t a ne e = ne (cond-false _ _ _ (ne_eqb t 0 (λ z. omega arith)) ∙ ap (position (listed s)) e)

  here : (t : ℕ) → ρ t < 128
  here t = omega (arith, place_low part t, part.few)

  -- the rows of an area where nothing was copied
  module _ (area : ℕ) (chosen : ℕ → Type 0) (C : Copied M code len part form area chosen (size form + 1) w₁ w₂) (blank : (h : ℕ) → h ≤ plan.places.cells → Rows code w₁ area h ≡ zeros) where
    left_blank : (t : ℕ) → 0 < t → t ≤ size form → (chosen t → ⊥) → (u : ℕ) → Grid M code w₂ area (ρ t) u ≡ F.zero
    left_blank t a b not u =
        up_is_zero M (
        at (C.rest (ρ t) (here t) (λ i l h ch e. not (subst chosen (sym (apart t i a b l (omega arith) e)) ch)) ∙ blank (ρ t) (omega (arith, place_low part t, lent.steady))) u)

    last_blank : (u : ℕ) → Grid M code w₂ area plan.places.cells u ≡ F.zero
    last_blank u =
        up_is_zero M (
        at (C.rest plan.places.cells (let k = plan.places.few in omega arith) (λ i l h _ e. (let z = below i l (omega arith) in omega arith)) ∙ blank plan.places.cells (omega arith)) u)

  difs : (t : ℕ) → 0 < t → t ≤ size form → (u : ℕ) → Grid M code w₂ 128 (ρ t) u ≡ along F (size form + 1) ρ (tied_dif t) u
  difs t a b u = elim (cases_eq (P.pos t) q) [
    | inl e ↦ left_blank 128 (Free form (Some (input, on))) copied_dif blanked.dif t a b (λ ne. ne (reads t a e)) u
        ∙ sym (along_blank F ρ (size form + 1) (tied_dif t) (λ v _. cond-true _ _ _ (eq-eqb _ _ e)) u)
    | inr e ↦ copied_dif.rows (omega (arith, lent.steady)) apart t a (omega arith) (reads_not t a e) u
        ∙ along_same F ρ (size form + 1) _ (tied_dif t) (λ v _. sym (cond-false _ _ _ (ne_eqb _ _ e) ∙ row_is t a v)) u
  ]

  offs : (t : ℕ) → 0 < t → t ≤ size form → (u : ℕ) → Grid M code w₂ 0 (ρ t) u ≡ along F (size form + 1) ρ (tied_off t) u
  offs t a b u = elim (cases_eq (P.pos t) q) [
    | inl e ↦ held e on refl
    | inr e ↦ left_blank 0 (Held form (Some (input, on))) copied_off blanked.off t a b (λ h. reads_not t a e h.0) u
        ∙ sym (along_blank F ρ (size form + 1) (tied_off t) (λ v _. cond-false _ _ _ (ne_eqb _ _ e)) u)
  ]
    where
      held : P.pos t ≡ q → (v : Bool) → on ≡ v → Grid M code w₂ 0 (ρ t) u ≡ along F (size form + 1) ρ (tied_off t) u
      held e true is =
          copied_off.rows (omega (arith, lent.steady)) apart t a (omega arith) (reads t a e, is) u
          ∙ along_same F ρ (size form + 1) _ (tied_off t) (λ v _. sym (
          cond-true _ _ _ (eq-eqb _ _ e) ∙ ap (λ (x : Bool). F.times (bit F x) (P.dif t v)) is ∙ F.times_comm _ _ ∙ F.times_one _ ∙ row_is t a v)) u
      held e false is =
          left_blank 0 (Held form (Some (input, on))) copied_off blanked.off t a b (λ h. true≢false (sym h.1 ∙ is)) u
          ∙ sym (along_blank F ρ (size form + 1) (tied_off t) (λ v _. cond-true _ _ _ (eq-eqb _ _ e) ∙ ap (λ (x : Bool). F.times (bit F x) (P.dif t v)) is ∙ zero_times F _) u)

  steady_not : P.pos 0 ≢ q
  steady_not e = omega (arith, q_low)

  module _ (out : S) where
    abbrev T : Diagram (Element M)
    T = rowed P tied_off tied_dif P.out

    abbrev D : Diagram (Element M)
    D = lay.diagram_in M code s ps (size form) plan d w₂ out

    stand : Embeds F T D ρ
    stand =
        lay.embeds M code s ps (size form) plan d form 0 part lent fits listed_at fP w₂ out tied_off tied_dif P.out (λ u. cond-false _ _ _ (ne_eqb _ _ steady_not))
        (λ u. cond-false _ _ _ (ne_eqb _ _ steady_not)) (last_blank 0 (Held form (Some (input, on))) copied_off blanked.off) (last_blank 128 (Free form (Some (input, on))) copied_dif blanked.dif) offs difs

    whole : (t : ℕ) → t < plan.places.cells + 1 → Stands T ρ t
    whole t l = elim (cases_eq t plan.places.cells) [
      | inl e ↦ (0, omega arith, lent.steady ∙ sym e)
      | inr e ↦ cell (d.onto t (omega arith))
    ]
      where
        cell : (i : ℕ) × (i < size form) × (get_or ps i 0 < n) × (get_or plan.place i 0 ≡ t) → Stands T ρ t
        cell (i, li, _, e) = lay.stands M code s ps (size form) plan d form 0 part lent fits listed_at fP i t (omega arith) (omega arith) e

    formed : Formed F n T
    formed = tied_formed F n P q on tied_off tied_dif fP q_low ties

    draft_formed : Formed F n D
    draft_formed = moved_formed F n T D ρ formed stand whole

    -- the draft of the form where the input reads as it is tied
    pub tied_means : ((u : ℕ) → vec M (code out) u ≡ along F (size form + 1) ρ (Grid M code form.strips.now 0 0) u)
        → Drafts M code w₂ (draft_of plan out) n (λ x. rule F n P (turn q on x))
    tied_means outlet =
        lay.means M code s ps (size form) plan d w₂ out _ draft_formed (λ x.
        moved_rule F n T D ρ formed draft_formed stand (λ u _. outlet u) x ∙ tied_rule F n P q on tied_off tied_dif fP q_low ties x)
