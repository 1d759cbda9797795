-- A patch is a diagram with its rule; and settings are as good as assignments. Assumes nothing.
use Rattle.std.proofs.Common.{◌≡◌, ℕ, ◌^◌, ◌<◌, ◌≤◌, Bool, true, false, cond, eqb, List, [], map, get_or, sym, refl, ap, ◌∙◌, subst, ap₂, inl, inr, arith}
use native.Mathlib.Decide.{ℕ_discrete}
use Rattle.std.proofs.lemmas.Bool.{cond-false, ne_eqb}
use Rattle.linear.specs.Codes.{Code, codes, as_code}
use Rattle.linear.specs.Field.{Field}
use Rattle.linear.proofs.Ring.{one_times, zero_times}
use Rattle.patch.specs.Faults.{position, Later, Patch}
use Rattle.patch.specs.Paths.{bit as bit_of, on_from, off_from, path_sum, product, total, rule as rule_of}
use Rattle.patch.specs.Records.{records, declared, nth, reads, cells_of}
use Rattle.patch.specs.Settings.{made}
use Rattle.patch.specs.Values.{sent}
use Rattle.patch.proofs.Bits.{any_inputs, same_paths, made_bit, made_bits}
use Rattle.patch.proofs.Facts.{Facts, facts}
use Rattle.patch.proofs.Numbers.{lift_is, sent_none, diagram_in_field}
use Rattle.patch.proofs.Values.{open_arc}
use Rattle.diagram.specs.Canonical.{Local}
use Rattle.diagram.specs.Diagram.{Assignment, turn, Formed, bit, val, rule}
use Rattle.diagram.specs.Patches.{Reading, scalars, inputs, reads_as, at_settings, Agree, patch_diagram}
use Rattle.diagram.proofs.Outlets.{rule_local}
use Rattle.diagram.proofs.Values.{opens, open_val, steady_val, turn_at, turn_off}

pub bit_times : {K : Type 0} (F : Field K) (b : Bool) (y : K) → F.times (bit F b) y ≡ cond b y F.zero
bit_times F true y = one_times F y
bit_times F false y = zero_times F y

pub bit_when : {K : Type 0} (F : Field K) (b c : Bool) (y : K) → b ≡ c → F.times (bit F b) y ≡ cond c y F.zero
bit_when F b c y e = ap (λ d. F.times (bit F d) y) e ∙ bit_times F c y

module _ (R : Reading) where
  open R use {q, plus, times, neg, field, order, ordered}

  abbrev F : Field (Code q)
  F = scalars R

  abbrev n : ℕ
  n = inputs R

  pub zero_code : as_code field 0 ≡ F.zero
  unfolding codes
  zero_code = lift_is field 0 F.zero refl

  module _ (bytes : List ℕ) (P : Patch order q bytes) where
    A : Facts order q (records bytes)
    A = facts order q bytes ordered P

    pos_cell : (t : ℕ) → 0 < t → (patch_diagram R bytes).pos t ≡ position order (reads (records bytes) t)
    pos_cell t z = cond-false _ _ _ (ne_eqb t 0 (λ e. omega arith))

    pos_below : (t : ℕ) → 0 < t → t ≤ cells_of (records bytes) → (patch_diagram R bytes).pos t < n
    pos_below t z h = rw (pos_cell t z) (A.place_is t z h)

    -- arcs lead to later positions
    leads : (t u : ℕ) → 0 < t → t ≤ cells_of (records bytes) → Later order (declared [] (records bytes)) t u → (patch_diagram R bytes).pos t < (patch_diagram R bytes).pos u
    leads t u z h l = elim (ℕ_discrete u 0) [ yes e ↦ rw e (pos_below t z h) | no ne ↦ go l ne ]
      where
        go : Later order (declared [] (records bytes)) t u → (u ≡ 0 → ⊥) → (patch_diagram R bytes).pos t < (patch_diagram R bytes).pos u
        go (inl e) ne = absurd (ne e)
        go (inr k) ne = rw (pos_cell t z, pos_cell u (omega arith)) k

    no_off : (t u : ℕ) → (patch_diagram R bytes).pos u ≤ (patch_diagram R bytes).pos t → sent plus (records bytes) (off_from t) u ≡ 0
    no_off t u l =
        sent_none field order (records bytes) A (off_from t) u (
        λ k o e.
        let a = open_arc order q (records bytes) (λ _. false) t (nth (records bytes) k) (A.fine k) o in
        omega (arith, leads t u a.from_cell a.from_known (subst (Later order (declared [] (records bytes)) t) (sym e) a.leads_later)))

    no_on : (t u : ℕ) → (patch_diagram R bytes).pos u ≤ (patch_diagram R bytes).pos t → sent plus (records bytes) (on_from t) u ≡ 0
    no_on t u l =
        sent_none field order (records bytes) A (on_from t) u (
        λ k o e.
        let a = open_arc order q (records bytes) (λ _. true) t (nth (records bytes) k) (A.fine k) o in
        omega (arith, leads t u a.from_cell a.from_known (subst (Later order (declared [] (records bytes)) t) (sym e) a.leads_later)))

    pub patch_formed : Formed F n (patch_diagram R bytes)
    patch_formed = record {
      steady = 0;
      steady_in = omega arith;
      steady_pos = refl;
      others = λ t h ne. pos_below t (omega arith) (omega arith);
      off_later = λ t u h k l. ap (as_code field) (no_off t u l) ∙ zero_code;
      dif_later = λ t u h k l. ap (as_code field) (ap₂ (λ x y. plus x (neg y)) (no_on t u l) (no_off t u l) ∙ field.plus_neg 0 (omega (arith, field.two))) ∙ zero_code;
    }

    pub patch_steady : patch_formed.steady ≡ 0
    unfolding patch_formed
    patch_steady = refl

    -- the rule at any inputs x
    pub patch_by_inputs : (x : ℕ → Bool) → path_sum plus times (records bytes) n x ≡ (rule F n (patch_diagram R bytes) (λ p. x (get_or order p 0))).0
    unfolding opens
    patch_by_inputs x =
        diagram_in_field field order (records bytes) A x (λ u. val F n (patch_diagram R bytes) u a)
        (steady_val F n (patch_diagram R bytes) patch_formed 0 (omega arith) a)
        (λ t z h.
        open_val F n (patch_diagram R bytes) patch_formed t (omega arith) (pos_below t z h) a
        ∙ ap (F.plus _) (
        bit_when F (x (get_or order ((patch_diagram R bytes).pos t) 0)) (x (reads (records bytes) t)) _ (
        ap (λ i. x (get_or order i 0)) (pos_cell t z) ∙ ap x (ordered.there (reads (records bytes) t) (A.input_is t z h)))))
      where
        a : Assignment
        a p = x (get_or order p 0)

    pub patch_rule : (a : Assignment) (setting : ℕ) → ((p : ℕ) → p < n → reads_as R setting p ≡ a p)
        → (rule F n (patch_diagram R bytes) a).0 ≡ rule_of plus times order bytes setting
    patch_rule a setting r =
        ap (λ (c : Code q). c.0) (rule_local F n (patch_diagram R bytes) patch_formed a (reads_as R setting) (λ p h. sym (r p h)))
        ∙ sym (patch_by_inputs (bit_of setting))

    pub patch_agrees : Agree R (rule_of plus times order bytes) (at_settings R (rule F n (patch_diagram R bytes)))
    patch_agrees setting h = patch_by_inputs (bit_of setting)

    pub depends : (x y : ℕ → Bool) → ((i : ℕ) → i < n → x i ≡ y i)
        → path_sum plus times (records bytes) n x ≡ path_sum plus times (records bytes) n y
    depends x y e = ap (λ ps. total plus (map (product times (records bytes)) ps)) (same_paths order q (records bytes) A x y e n)

  -- a setting that reads as an assignment does
  pub setting_for : (a : Assignment) → (setting : ℕ) × (setting < 2 ^ n) × ((p : ℕ) → p < n → reads_as R setting p ≡ a p)
  setting_for a =
      let s = any_inputs n (λ i. a (position order i)) in
      (s.0, s.1, λ p h. s.2 (get_or order p 0) (ordered.listed p h) ∙ ap a (ordered.back p h))

  pub everywhere : {K : Type 0} (f g : Assignment → K) → Local n f → Local n g
      → ((setting : ℕ) → setting < 2 ^ n → f (reads_as R setting) ≡ g (reads_as R setting)) → (a : Assignment) → f a ≡ g a
  everywhere f g lf lg e a =
      let s = setting_for a in
      lf a (reads_as R s.0) (λ p h. sym (s.2 p h)) ∙ e s.0 s.1 ∙ lg (reads_as R s.0) a s.2

  pub made_turns : (setting i v : ℕ) → i < n → v < 2 → (p : ℕ) → p < n → reads_as R (made setting i v) p ≡ turn (position order i) (eqb v 1) (reads_as R setting) p
  made_turns setting i v h l p k =
      elim (ℕ_discrete p (position order i)) [
        | yes e ↦
            ap (λ r. bit_of (made setting i v) (get_or order r 0)) e ∙ ap (bit_of (made setting i v)) (ordered.there i h) ∙ made_bit setting i v l
            ∙ sym (ap (turn (position order i) (eqb v 1) (reads_as R setting)) e ∙ turn_at (position order i) (eqb v 1) (reads_as R setting))
        | no ne ↦
            made_bits setting i v l (get_or order p 0) (λ e. ne (sym (ordered.back p k) ∙ ap (position order) e))
            ∙ sym (turn_off (position order i) (eqb v 1) (reads_as R setting) p ne)
      ]

  -- a rule with an input tied, at a setting
  pub tied_setting : (f : Assignment → Code q) → Local n f → (setting i v : ℕ) → i < n → v < 2
      → at_settings R (λ a. f (turn (position order i) (eqb v 1) a)) setting ≡ at_settings R f (made setting i v)
  tied_setting f local setting i v h l =
      ap (λ (c : Code q). c.0) (sym (local (reads_as R (made setting i v)) (turn (position order i) (eqb v 1) (reads_as R setting)) (made_turns setting i v h l)))
