-- The settled patch of a rule: it is the encoding of the canonical diagram, no patch of the rule is smaller, and there is only one. Assumes nothing.
use Rattle.std.proofs.Common.{◌≡◌, ℕ, suc, ◌≤◌, Bool, List, sym, ap, ◌∙◌, ap₂, arith}
use native.Mathlib.Decide.{dec_lt}
use Rattle.linear.specs.Codes.{Code, code_eq, as_code}
use Rattle.linear.specs.Field.{Field}
use Rattle.patch.specs.Faults.{Patch}
use Rattle.patch.specs.Paths.{off_from, on_from, starts, rule as rule_of}
use Rattle.patch.specs.Records.{Record, records, cells_of}
use Rattle.patch.specs.Settled.{Settled}
use Rattle.patch.specs.Values.{sent}
use Rattle.patch.proofs.Facts.{facts}
use Rattle.patch.proofs.Held.{target_small}
use Rattle.patch.proofs.Numbers.{sent_none}
use Rattle.diagram.specs.Canonical.{Echelon, CanonicalCells, Canonical, Local}
use Rattle.diagram.specs.Diagram.{Assignment, Diagram, Formed, rule}
use Rattle.diagram.specs.Patches.{Reading, Needs, scalars, inputs, reads_as, at_settings, Agree, PatchOf, SettledOf, patch_diagram, encoding}
use Rattle.diagram.proofs.Cells.{formed}
use Rattle.diagram.proofs.Cutting.{first_places, first_formed, first_rule}
use Rattle.diagram.proofs.Encodings.{encoded_patch, encoded_kept, encoded_count, same_encoding, decoded_diagram}
use Rattle.diagram.proofs.Exists.{made, made_canonical, made_rule}
use Rattle.diagram.proofs.Main.{unique, unique_smallest}
use Rattle.diagram.proofs.Outlets.{rule_local}
use Rattle.diagram.proofs.Patched.{zero_code, patch_formed, patch_steady, patch_agrees, everywhere}
use Rattle.diagram.proofs.Smallest.{smallest}

module _ (R : Reading) where
  open R use {q, plus, times, neg, field, order, ordered}

  abbrev F : Field (Code q)
  F = scalars R

  abbrev n : ℕ
  n = inputs R

  agree_trans : (f g h : ℕ → ℕ) → Agree R f g → Agree R g h → Agree R f h
  agree_trans f g h a b setting l = a setting l ∙ b setting l

  agree_sym : (f g : ℕ → ℕ) → Agree R f g → Agree R g f
  agree_sym f g a setting l = sym (a setting l)

  -- rules over assignments that agree at every setting agree
  pub lifted : (f g : Assignment → Code q) → Local n f → Local n g → Agree R (at_settings R f) (at_settings R g) → (a : Assignment) → f a ≡ g a
  lifted f g lf lg e = everywhere R f g lf lg (λ setting h. code_eq (e setting h))

  -- the diagram of a patch of f has the rule f
  pub patch_has : (f : Assignment → Code q) → Local n f → (bytes : List ℕ) (P : PatchOf R (at_settings R f) bytes)
      → (a : Assignment) → rule F n (patch_diagram R bytes) a ≡ f a
  patch_has f local bytes P =
      lifted (rule F n (patch_diagram R bytes)) f (rule_local F n (patch_diagram R bytes) (patch_formed R bytes P.0)) local (
      agree_trans _ _ _ (agree_sym _ _ (patch_agrees R bytes P.0)) P.1)

  pub patches_need : (f : Assignment → Code q) → Local n f → (m : ℕ) → Needs F n f (suc m)
      → (bytes : List ℕ) → PatchOf R (at_settings R f) bytes → m ≤ cells_of (records bytes)
  patches_need f local m needs bytes P = omega (arith, needs (patch_diagram R bytes) (patch_formed R bytes P.0) (patch_has f local bytes P))

  pub smallest_patch : (f : Assignment → Code q) → Local n f → (D : Diagram (Code q)) → CanonicalCells F n f D
      → (bytes : List ℕ) → PatchOf R (at_settings R f) bytes → D.places ≤ suc (cells_of (records bytes))
  smallest_patch f local D cells bytes P =
      smallest F n f D (patch_diagram R bytes) cells (patch_formed R bytes P.0) (patch_has f local bytes P)

  -- Arcs lead to the cells 0 to 255 only, so that many do for every patch.
  module _ (bytes : List ℕ) (P : Patch order q bytes) (many : 256 ≤ cells_of (records bytes)) where
    none : (pick : Record → Bool) (u : ℕ) → 256 ≤ u → sent plus (records bytes) pick u ≡ 0
    none pick u h = sent_none field order (records bytes) (facts order q bytes ordered P) pick u (λ k o e. omega (arith, target_small order q bytes P k))

    unreached : (pick : Record → Bool) (u : ℕ) → 256 ≤ u → as_code field (sent plus (records bytes) pick u) ≡ F.zero
    unreached pick u h = ap (as_code field) (none pick u h) ∙ zero_code R

    no_dif : (t u : ℕ) → 256 ≤ u → (patch_diagram R bytes).dif t u ≡ F.zero
    no_dif t u h =
        ap (as_code field) (ap₂ (λ x y. plus x (neg y)) (none (on_from t) u h) (none (off_from t) u h) ∙ field.plus_neg 0 (omega (arith, field.two))) ∙ zero_code R

    named_formed : Formed F n (first_places (patch_diagram R bytes) 256)
    named_formed =
        first_formed F n (patch_diagram R bytes) (patch_formed R bytes P) 256 (omega arith) (omega (arith, patch_steady R bytes P)) (λ t u h k l. unreached (off_from t) u k) (
        λ t u h k l. no_dif t u k) (λ u k l. unreached starts u k)

    named_rule : (a : Assignment) → rule F n (first_places (patch_diagram R bytes) 256) a ≡ rule F n (patch_diagram R bytes) a
    named_rule =
        first_rule F n (patch_diagram R bytes) (patch_formed R bytes P) 256 (omega arith) (omega (arith, patch_steady R bytes P)) (λ t u h k l. unreached (off_from t) u k) (
        λ t u h k l. no_dif t u k) (λ u k l. unreached starts u k)

  -- the canonical diagram of a patch's rule has at most 255 cells
  pub few_places : (f : Assignment → Code q) → Local n f → (D : Diagram (Code q)) → CanonicalCells F n f D
      → (bytes : List ℕ) → PatchOf R (at_settings R f) bytes → D.places ≤ 256
  few_places f local D cells bytes P =
      elim (dec_lt (cells_of (records bytes)) 256) [
        | yes l ↦ omega (arith, smallest_patch f local D cells bytes P)
        | no l ↦
            let many : 256 ≤ cells_of (records bytes) = omega arith in
            smallest F n f D (first_places (patch_diagram R bytes) 256) cells (named_formed bytes P.0 many) (
            λ a. named_rule bytes P.0 many a ∙ patch_has f local bytes P a)
      ]

  -- the encoding of a canonical diagram is settled
  pub encoded_settled : (D : Diagram (Code q)) → Canonical F n D → D.places ≤ 256 → SettledOf R (at_settings R (rule F n D)) (encoding R D)
  encoded_settled D can l =
      let P = encoded_patch R D can.echelon l in (
        record {
          patch = P.0;
          kept = encoded_kept R D can.echelon;
          smallest = λ others O same.
              omega (arith, encoded_count R D can.echelon, smallest_patch (rule F n D) local D can others (O, λ setting h. sym (same setting h) ∙ P.1 setting h));
        },
        P.1,
      )
    where
      local : Local n (rule F n D)
      local = rule_local F n D (formed F n D can.echelon)

  -- the same for a canonical diagram of the rule f
  pub settled_by : (f : Assignment → Code q) (D : Diagram (Code q)) → Canonical F n D → D.places ≤ 256 → ((a : Assignment) → rule F n D a ≡ f a)
      → SettledOf R (at_settings R f) (encoding R D)
  settled_by f D can l e =
      let S = encoded_settled D can l in (S.0, λ setting h. S.1 setting h ∙ ap (λ (c : Code q). c.0) (e (reads_as R setting)))

  -- and a settled patch is the encoding of a canonical diagram
  pub settled_canonical : (bytes : List ℕ) → Settled q plus times order bytes
      → (D : Diagram (Code q)) × Canonical F n D × (D.places ≤ 256) × (bytes ≡ encoding R D)
  settled_canonical bytes S = go (decoded_diagram R bytes S.patch S.kept)
    where
      go : ((D : Diagram (Code q)) × Echelon F n D × (D.places ≤ 256) × (bytes ≡ encoding R D))
          → (D : Diagram (Code q)) × Canonical F n D × (D.places ≤ 256) × (bytes ≡ encoding R D)
      go (D, ech, l, e) =
          let form = formed F n D ech in
          let local : Local n (rule F n D) = rule_local F n D form in
          let C : Diagram (Code q) = made F n (rule F n D) local in
          let can : Canonical F n C = made_canonical F n (rule F n D) local in
          let rules : (a : Assignment) → rule F n C a ≡ rule F n D a = made_rule F n (rule F n D) local in
          let least : C.places ≤ D.places = smallest F n (rule F n C) C D can form (λ a. sym (rules a)) in
          let P = encoded_patch R C can.echelon (omega arith) in
          let Q = encoded_patch R D ech l in
          let no_more : cells_of (records bytes) ≤ cells_of (records (encoding R C)) =
          S.smallest (encoding R C) P.0 (
          λ setting h.
          ap (λ (b : List ℕ). rule_of plus times order b setting) e ∙ Q.1 setting h ∙ ap (λ (c : Code q). c.0) (sym (rules (reads_as R setting))) ∙ sym (P.1 setting h)) in
          let same = unique_smallest F n C D can ech (omega (arith, encoded_count R C can.echelon, encoded_count R D ech, ap (λ (b : List ℕ). cells_of (records b)) e)) rules in
          (C, can, omega arith, e ∙ sym (same_encoding R C D can.echelon.some same))

  pub only_one : (f : ℕ → ℕ) (bytes others : List ℕ) → SettledOf R f bytes → SettledOf R f others → bytes ≡ others
  only_one f bytes others S T = go (settled_canonical bytes S.0) (settled_canonical others T.0)
    where
      go : ((D : Diagram (Code q)) × Canonical F n D × (D.places ≤ 256) × (bytes ≡ encoding R D))
          → ((D : Diagram (Code q)) × Canonical F n D × (D.places ≤ 256) × (others ≡ encoding R D)) → bytes ≡ others
      go (D, canD, lD, eD) (E, canE, lE, eE) =
          let P = encoded_patch R D canD.echelon lD in
          let Q = encoded_patch R E canE.echelon lE in
          let rules : (a : Assignment) → rule F n D a ≡ rule F n E a =
          lifted (rule F n D) (rule F n E) (rule_local F n D (formed F n D canD.echelon)) (
          rule_local F n E (formed F n E canE.echelon)) (
          λ setting h.
          sym (P.1 setting h) ∙ ap (λ (b : List ℕ). rule_of plus times order b setting) (sym eD) ∙ S.1 setting h ∙ sym (T.1 setting h)
          ∙ ap (λ (b : List ℕ). rule_of plus times order b setting) eE ∙ Q.1 setting h) in
          eD ∙ same_encoding R D E canD.echelon.some (unique F n D E canD canE rules) ∙ sym eE

  pub exists_if_patch : (f : ℕ → ℕ) (bytes : List ℕ) → PatchOf R f bytes → (settled : List ℕ) × SettledOf R f settled
  exists_if_patch f bytes P =
      let form = patch_formed R bytes P.0 in
      let g : Assignment → Code q = rule F n (patch_diagram R bytes) in
      let local : Local n g = rule_local F n (patch_diagram R bytes) form in
      let C : Diagram (Code q) = made F n g local in
      let can : Canonical F n C = made_canonical F n g local in
      let rules : (a : Assignment) → rule F n C a ≡ g a = made_rule F n g local in
      let to_bytes : Agree R (rule_of plus times order bytes) (at_settings R (rule F n C)) =
      λ setting h. patch_agrees R bytes P.0 setting h ∙ ap (λ (c : Code q). c.0) (sym (rules (reads_as R setting))) in
      let l : C.places ≤ 256 =
      few_places (rule F n C) (rule_local F n C (formed F n C can.echelon)) C can bytes (P.0, to_bytes) in
      let S = encoded_settled C can l in
      (encoding R C, (S.0, λ setting h. S.1 setting h ∙ sym (to_bytes setting h) ∙ P.1 setting h))
