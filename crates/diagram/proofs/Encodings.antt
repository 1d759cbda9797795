-- The encoding of a diagram in echelon form is a patch of its rule that keeps the order and the first four conditions; and such a patch is the encoding of one. Assumes nothing.
use Rattle.std.proofs.Common.{◌≡◌, ℕ, zero, suc, ◌-◌, ◌<◌, ◌≤◌, Bool, cond, eqb, ltb, List, length, get_or, sym, refl, ap, ◌∙◌, arith}
use mathlib.Core.HLevel.{dec→stable}
use native.Mathlib.Decide.{ℕ_discrete, dec_lt}
use Rattle.std.proofs.lemmas.Bool.{cond-true, cond-false, ne_eqb, lt-ltb, le-ltb}
use Rattle.linear.specs.Codes.{Code, codes, as_code}
use Rattle.linear.specs.Field.{Field}
use Rattle.linear.specs.Sums.{sum}
use Rattle.linear.proofs.Ring.{zero_times}
use Rattle.linear.proofs.Sums.{sum_cong}
use Rattle.patch.specs.Encoding.{encode, EchelonNumbers}
use Rattle.patch.specs.Faults.{position, Patch}
use Rattle.patch.specs.Paths.{bit as bit_of, path_sum}
use Rattle.patch.specs.Records.{records, reads, cells_of}
use Rattle.patch.specs.Settled.{Kept}
use Rattle.patch.proofs.Decoded.{decoded}
use Rattle.patch.proofs.Encoded.{back, is_patch, keeps, count_is}
use Rattle.patch.proofs.Held.{cells_few}
use Rattle.patch.proofs.Lengths.{encode_short}
use Rattle.patch.proofs.Numbers.{lift_is, lift_number}
use Rattle.patch.proofs.Rowsum.{encoded_in_field, encode_same}
use Rattle.diagram.specs.Canonical.{Echelon, Leads}
use Rattle.diagram.specs.Diagram.{Assignment, Diagram, val, rule}
use Rattle.diagram.specs.Patches.{Reading, scalars, inputs, at_settings, PatchOf, encoding}
use Rattle.diagram.specs.Uniqueness.{Same}
use Rattle.diagram.proofs.Cells.{formed, cell_val}
use Rattle.diagram.proofs.Levels.{sum_cut, leads_same, head, head_leads}
use Rattle.diagram.proofs.Patched.{bit_times, zero_code}
use Rattle.diagram.proofs.Values.{steady_val}

module _ (R : Reading) where
  open R use {q, plus, times, neg, inv, field, few, order, ordered}

  abbrev F : Field (Code q)
  F = scalars R

  abbrev n : ℕ
  n = inputs R

  zero_number : F.zero.0 ≡ 0
  unfolding codes
  zero_number = refl

  one_number : F.one.0 ≡ 1
  unfolding codes
  one_number = refl

  is_zero : (c : Code q) → c ≡ F.zero → c.0 ≡ 0
  is_zero c e = ap (λ (d : Code q). d.0) e ∙ zero_number

  is_one : (c : Code q) → c ≡ F.one → c.0 ≡ 1
  is_one c e = ap (λ (d : Code q). d.0) e ∙ one_number

  one_code : as_code field 1 ≡ F.one
  one_code = lift_is field 1 F.one (sym one_number)

  -- the code of a code's number is the code
  again : (c : Code q) → as_code field c.0 ≡ c
  again c = lift_is field c.0 c refl

  module _ (D : Diagram (Code q)) (ech : Echelon F n D) where
    below : (j : ℕ) → j ≤ D.places - 1 → j < D.places
    below j h = omega (arith, ech.some)

    -- where a cell's input stands
    place : (j : ℕ) → 0 < j → j ≤ D.places - 1 → position order (get_or order (D.pos j) 0) ≡ D.pos j
    place j z h = ordered.back (D.pos j) (ech.cells j z (below j h))

    same_place : (i j : ℕ) → 0 < i → i ≤ D.places - 1 → 0 < j → j ≤ D.places - 1 → get_or order (D.pos i) 0 ≡ get_or order (D.pos j) 0 → D.pos i ≡ D.pos j
    same_place i j zi hi zj hj e = sym (place i zi hi) ∙ ap (position order) e ∙ place j zj hj

    in_numbers : EchelonNumbers order q (D.places - 1) (λ j. get_or order (D.pos j) 0) (λ j t. (D.dif j t).0) (λ t. (D.out t).0) (head F n D ech)
    in_numbers = record {
      input = λ j z h. ordered.listed (D.pos j) (ech.cells j z (below j h));
      code = λ j t z h l. (D.dif j t).1;
      out_code = λ t h. (D.out t).1;
      later = λ j t h z l ne.
          rw (place j (omega arith) h, place t z (omega arith)) (
          elim (dec_lt (D.pos j) (D.pos t)) [
            | yes k ↦ k
            | no k ↦ absurd (ne (is_zero (D.dif j t) (ech.dif_later j t (below j h) (omega (arith, below j h)) (omega arith))))
          ]);
      never_later = λ i j z h l. rw (place i z (omega arith), place j (omega arith) l) (ech.falling i j (omega arith) (below j l));
      head_below = λ j z h. (head_leads F n D ech j z (below j h)).0;
      head_one = λ j z h. is_one (D.dif j _) (head_leads F n D ech j z (below j h)).1.0;
      before_head = λ j t z h l. is_zero (D.dif j t) ((head_leads F n D ech j z (below j h)).1.1 t l);
      heads_rise = λ i j z h l e.
          ech.rising i j _ _ z h (below j l) (same_place i j z (omega arith) (omega arith) l e) (head_leads F n D ech i z (below i (omega arith))).1 (head_leads F n D ech j (omega arith) (below j l)).1;
      heads_clear = λ i j zi hi zj hj ne e l.
          is_zero (D.dif i _) (
          ech.clear i j _ zi (below i hi) zj (below j hj) ne (same_place i j zi hi zj hj e) (head_leads F n D ech j zj (below j hj)).1);
    }

    -- the rule at any inputs x
    encoded_by_inputs : (x : ℕ → Bool) → path_sum plus times (records (encoding R D)) n x ≡ (rule F n D (λ p. x (get_or order p 0))).0
    encoded_by_inputs x =
        encoded_in_field field order ordered (D.places - 1) (λ j. get_or order (D.pos j) 0) (λ j t. (D.dif j t).0) (λ t. (D.out t).0) _ in_numbers x V (
        steady_val F n D (formed F n D ech) 0 (omega (arith, ech.steady)) a) cell
        ∙ ap (λ (c : Code q). c.0) (
        ap (λ m. sum F m (λ t. F.times (as_code field (D.out t).0) (V t))) all
        ∙ sum_cong F D.places _ _ (λ t h. ap (λ y. F.times y (V t)) (again (D.out t))))
      where
        a : Assignment
        a p = x (get_or order p 0)

        V : ℕ → Code q
        V t = val F n D t a

        all : suc (D.places - 1) ≡ D.places
        all = omega (arith, ech.some)

        cell : (f : ℕ) → f < D.places - 1
            → V (suc f) ≡ cond (x (get_or order (D.pos (suc f)) 0)) (sum F (suc f) (λ t. F.times (as_code field (D.dif (suc f) t).0) (V t))) F.zero
        cell f h =
            let l : suc f < D.places = omega arith in
            cell_val F n D ech (suc f) l (ech.cells (suc f) (omega arith) l) a
            ∙ bit_times F (x (get_or order (D.pos (suc f)) 0)) _
            ∙ ap (λ y. cond (x (get_or order (D.pos (suc f)) 0)) y F.zero) (
            sum_cut F (suc f) D.places (λ u. F.times (D.dif (suc f) u) (V u)) (omega arith) (
            λ u k r. ap (λ y. F.times y (V u)) (ech.dif_later (suc f) u l r (ech.falling (suc f) u k r)) ∙ zero_times F (V u))
            ∙ sum_cong F (suc f) _ _ (λ t k. ap (λ y. F.times y (V t)) (sym (again (D.dif (suc f) t)))))

    pub encoded_patch : D.places ≤ 256 → PatchOf R (at_settings R (rule F n D)) (encoding R D)
    encoded_patch l = (is_patch order q _ _ _ _ _ in_numbers ordered (omega (arith, ech.some)) few, λ setting h. encoded_by_inputs (bit_of setting))

    pub encoded_kept : Kept order (records (encoding R D))
    encoded_kept = keeps order q _ _ _ _ _ in_numbers

    pub encoded_count : D.places ≡ suc (cells_of (records (encoding R D)))
    encoded_count = omega (arith, ech.some, ap cells_of (back order q _ _ _ _ _ in_numbers) ∙ count_is order q _ _ _ _ _ in_numbers)

  pub encoding_short : (D : Diagram (Code q)) → D.places ≤ 32 → length (encoding R D) ≤ 2236
  encoding_short D h = encode_short (D.places - 1) _ _ _ (omega arith)

  -- diagrams that are the same have the same encoding
  pub same_encoding : (D E : Diagram (Code q)) → 0 < D.places → Same D E → encoding R D ≡ encoding R E
  same_encoding D E some s =
      encode_same (D.places - 1) (λ j. get_or order (D.pos j) 0) (λ j. get_or order (E.pos j) 0) (λ j t. (D.dif j t).0) (λ j t. (E.dif j t).0) (λ t. (D.out t).0) (λ t. (E.out t).0) (
      λ j z h. ap (λ p. get_or order p 0) (s.pos j (omega arith))) (λ j t h l. ap (λ (c : Code q). c.0) (s.dif j t (omega arith) (omega arith))) (
      λ t h. ap (λ (c : Code q). c.0) (s.out t (omega arith)))
      ∙ ap (λ m. encode (m - 1) (λ j. get_or order (E.pos j) 0) (λ j t. (E.dif j t).0) (λ t. (E.out t).0)) s.places

  -- The diagram of numbers in echelon form.
  module _ (k : ℕ) (inp : ℕ → ℕ) (row : ℕ → ℕ → ℕ) (out lead : ℕ → ℕ) (H : EchelonNumbers order q k inp row out lead) where
    abbrev read : Diagram (Code q)
    read = record {
      places = suc k;
      pos = λ j. cond (eqb j 0) n (position order (inp j));
      off = λ _ _. F.zero;
      dif = λ j t. as_code field (cond (ltb t j) (row j t) 0);
      out = λ t. as_code field (out t);
    }

    pos_cell : (j : ℕ) → 0 < j → read.pos j ≡ position order (inp j)
    pos_cell j z = cond-false _ _ _ (ne_eqb j 0 (λ e. omega arith))

    pos_below : (j : ℕ) → 0 < j → j ≤ k → read.pos j < n
    pos_below j z h = rw (pos_cell j z) (ordered.placed (inp j) (H.input j z h))

    -- entries below the cell, and past it
    entry : (j t : ℕ) → t < j → read.dif j t ≡ as_code field (row j t)
    entry j t l = ap (as_code field) (cond-true _ _ _ (lt-ltb t j l))

    nothing : (j t : ℕ) → j ≤ t → read.dif j t ≡ F.zero
    nothing j t l = ap (as_code field) (cond-false _ _ _ (le-ltb t j l)) ∙ zero_code R

    zero_row : (j t : ℕ) → j ≤ k → t < suc k → read.pos t ≤ read.pos j → t < j → row j t ≡ 0
    zero_row j zero h k l m = absurd (omega (arith, pos_below j m h))
    zero_row j (suc t) h k l m =
        dec→stable (ℕ_discrete (row j (suc t)) 0) (
        λ ne. omega (arith, H.later j (suc t) h (omega arith) m ne, pos_cell j (omega arith), pos_cell (suc t) (omega arith)))

    same_input : (i j : ℕ) → 0 < i → i ≤ k → 0 < j → j ≤ k → read.pos i ≡ read.pos j → inp i ≡ inp j
    same_input i j zi hi zj hj e =
        sym (ordered.there (inp i) (H.input i zi hi)) ∙ ap (λ p. get_or order p 0) (sym (pos_cell i zi) ∙ e ∙ pos_cell j zj) ∙ ordered.there (inp j) (H.input j zj hj)

    lead_leads : (j : ℕ) → 0 < j → j ≤ k → Leads F (read.dif j) (lead j)
    lead_leads j z h = (
      entry j (lead j) (H.head_below j z h) ∙ ap (as_code field) (H.head_one j z h) ∙ one_code,
      λ t l. entry j t (omega (arith, H.head_below j z h)) ∙ ap (as_code field) (H.before_head j t z h l) ∙ zero_code R,
    )

    lead_is : (j h : ℕ) → 0 < j → j ≤ k → Leads F (read.dif j) h → h ≡ lead j
    lead_is j h z l p = leads_same F (read.dif j) h (lead j) p (lead_leads j z l)

    read_echelon : Echelon F n read
    read_echelon = record {
      some = omega arith;
      steady = refl;
      cells = λ j z h. pos_below j z (omega arith);
      falling = elim [
        | zero ↦ (λ j l h. elim (ℕ_discrete j 0) [ yes e ↦ rw e (omega arith) | no e ↦ omega (arith, pos_below j (omega arith) (omega arith)) ])
        | suc i ↦
            (λ j l h.
            elim (ℕ_discrete (suc i) j) [
              | yes e ↦ rw e (omega arith)
              | no e ↦ rw (pos_cell (suc i) (omega arith), pos_cell j (omega arith)) (H.never_later (suc i) j (omega arith) (omega arith) (omega arith))
            ])
      ];
      off_zero = λ j t h l. refl;
      dif_later = λ j t h l m. elim (dec_lt t j) [
        | yes r ↦ entry j t r ∙ ap (as_code field) (zero_row j t (omega arith) l m r) ∙ zero_code R
        | no r ↦ nothing j t (omega arith)
      ];
      leads = λ j z h. (lead j, H.head_below j z (omega arith), lead_leads j z (omega arith));
      rising = λ i j g h z l m e p r.
          omega (arith, lead_is i g z (omega arith) p, lead_is j h (omega arith) (omega arith) r, H.heads_rise i j z l (omega arith) (same_input i j z (omega arith) (omega arith) (omega arith) e));
      clear = λ i j h zi hi zj hj ne e p.
          let s = lead_is j h zj (omega arith) p in
          elim (dec_lt h i) [
            | yes l ↦
                entry i h l ∙ ap (as_code field) (
                ap (row i) s ∙ H.heads_clear i j zi (omega arith) zj (omega arith) ne (same_input i j zi (omega arith) zj (omega arith) e) (omega arith)) ∙ zero_code R
            | no l ↦ nothing i h (omega arith)
          ];
    }

    read_encoding : encode k inp row out ≡ encoding R read
    read_encoding =
        sym (
        ap (λ m. encode m (λ j. get_or order (read.pos j) 0) (λ j t. (read.dif j t).0) (λ t. (read.out t).0)) same
        ∙ encode_same k (λ j. get_or order (read.pos j) 0) inp (λ j t. (read.dif j t).0) row (λ t. (read.out t).0) out (
        λ j z h. ap (λ p. get_or order p 0) (pos_cell j z) ∙ ordered.there (inp j) (H.input j z h)) (
        λ j t h l. ap (λ (c : Code q). c.0) (entry j t l) ∙ lift_number field (row j t) (H.code j t (omega arith) h l)) (
        λ t h. lift_number field (out t) (H.out_code t h)))
      where
        same : suc k - 1 ≡ k
        same = omega arith

  pub decoded_diagram : (bytes : List ℕ) → Patch order q bytes → Kept order (records bytes)
      → (D : Diagram (Code q)) × Echelon F n D × (D.places ≤ 256) × (bytes ≡ encoding R D)
  decoded_diagram bytes P K =
      let d = decoded order q (omega (arith, field.two)) ordered bytes P K in (
        read (cells_of (records bytes)) (reads (records bytes)) d.0 d.1 d.2 d.3,
        read_echelon (cells_of (records bytes)) (reads (records bytes)) d.0 d.1 d.2 d.3,
        cells_few order q bytes P K,
        d.4 ∙ read_encoding (cells_of (records bytes)) (reads (records bytes)) d.0 d.1 d.2 d.3,
      )
