-- Working memory is the first 512 of the strips that are lent. What is said of a diagram in it is said of the strips, and what is said of them is said of it:
-- a diagram looks at the rows of its own places only.
use Rattle.std.proofs.Common.{◌≡◌, ℕ, zero, suc, ◌+◌, ◌<◌, ◌≤◌, List, ◌++◌, length, take, drop, Result, Ok, Err, sym, refl, ap, ◌∙◌, subst, ap₂, arith}
use Rattle.std.proofs.lemmas.List.{length-take}
use mathlib.Core.Path.{fun_ext}
use mathlib.Core.Logic.{ite, ∥∥₁_map}
use native.Mathlib.Decide.{dec_lt}
use Rattle.linear.specs.Field.{Field}
use Rattle.linear.specs.Linear.{comb}
use Rattle.linear.proofs.Sums.{sum_cong}
use Rattle.diagram.specs.Canonical.{Derived, Leads, Echelon, Canonical}
use Rattle.diagram.specs.Diagram.{Assignment, Diagram, Formed, bit, value, val, rule}
use Rattle.diagram.specs.Passes.{rowed}
use Rattle.scale.specs.Model.{ScaleModel}
use Rattle.strip.specs.Row.{Row}
use Rattle.elimination.specs.Lift.{Element, scalars, vec, Grid}
use Rattle.elimination.specs.Rows.{Rows}
use Rattle.elimination.proofs.Parts.{placed, take_rows}
use Rattle.elimination.proofs.Sums.{at}
use Rattle.elimination.proofs.Tables.{row_left}
use Rattle.settling.specs.Backing.{celled, Derives, Settles}
use Rattle.settling.specs.Draft.{drafted, Beyond, Bounded}
use Rattle.settling.specs.Settling.{diagram_of, rule_of, positions, Sound, FormedDraft, DerivesDraft, TrimmedDraft, Settled}
use Rattle.settling.specs.declared.draft.Draft.{Draft}
use Rattle.settling.specs.declared.draft.Form.{Form}
use Rattle.settling.specs.declared.draft.TooMany.{TooMany}

-- the first 512 strips of w and v hold the same
abbrev pub Front : {S : Type 0} → (S → Row) → List S → List S → Type 0
Front code w v = (b k : ℕ) → b + k < 512 → Rows code w b k ≡ Rows code v b k

module _ {S : Type 0} (code : S → Row) where
  -- as working memory is taken, and as it is put back
  pub front_taken : (xs : List S) → Front code xs (take 512 xs)
  front_taken xs b k l = sym (take_rows code xs 512 b k l)

  module _ (xs ws : List S) (room : 512 ≤ length xs) (long : length ws ≡ 512) where
    pub front_put : Front code ws (ws ++ drop 512 xs)
    unfolding Rows
    front_put b k l = sym (row_left code ws (drop 512 xs) (b + k) (omega (arith, long)))

    pub beyond_put : Beyond code xs (ws ++ drop 512 xs)
    beyond_put = (placed code xs 0 512 512 refl room ws (omega (arith, long, length-take 512 xs))).outside.after

-- D, and the same places with rows that agree with D's there
module _ {K : Type 0} (F : Field K) (n : ℕ) (D : Diagram K) (off dif : ℕ → ℕ → K)
    (offs : (t : ℕ) → t < D.places → D.off t ≡ off t) (difs : (t : ℕ) → t < D.places → D.dif t ≡ dif t) where
  abbrev E : Diagram K
  E = rowed D off dif D.out

  same_comb : (c c' : ℕ → K) → c ≡ c' → (V W : ℕ → Assignment → K) (a : Assignment) → ((t : ℕ) → t < D.places → V t a ≡ W t a) → comb F D.places c V a ≡ comb F D.places c' W a
  same_comb c c' e V W a s = sum_cong F D.places _ _ (λ t l. ap₂ F.times (ap (λ (f : ℕ → K). f t) e) (s t l))

  same_value : (k t : ℕ) → t < D.places → (a : Assignment) → value F n D k t a ≡ value F n E k t a
  unfolding value
  same_value zero t l a = refl
  same_value (suc k) t l a =
      ap (λ (y : K). ite (dec_lt (D.pos t) n) y F.one)
      (ap₂ F.plus (same_comb (D.off t) (off t) (offs t l) (value F n D k) (value F n E k) a (λ u b. same_value k u b a))
      (ap (F.times (bit F (a (D.pos t)))) (same_comb (D.dif t) (dif t) (difs t l) (value F n D k) (value F n E k) a (λ u b. same_value k u b a))))

  pub same_val : (t : ℕ) → t < D.places → val F n D t ≡ val F n E t
  same_val t l = fun_ext (λ a. same_value n t l a)

  pub same_rule : (a : Assignment) → rule F n D a ≡ rule F n E a
  same_rule a = same_comb D.out D.out refl (val F n D) (val F n E) a (λ t l. same_value n t l a)

  pub same_formed : Formed F n D → Formed F n E
  same_formed form = record {
    steady = form.steady;
    steady_in = form.steady_in;
    steady_pos = form.steady_pos;
    others = form.others;
    off_later = λ t u l b q. ap (λ (f : ℕ → K). f u) (sym (offs t l)) ∙ form.off_later t u l b q;
    dif_later = λ t u l b q. ap (λ (f : ℕ → K). f u) (sym (difs t l)) ∙ form.dif_later t u l b q;
  }

  pub same_derived : (p t : ℕ) → t < D.places → Derived F (rule F n D) p (val F n D t) → Derived F (rule F n E) p (val F n E t)
  same_derived p t l d =
      subst (λ (f : Assignment → K). Derived F f p (val F n E t)) (fun_ext same_rule) (subst (λ (g : Assignment → K). Derived F (rule F n D) p g) (same_val t l) d)

  same_echelon : Echelon F n D → Echelon F n E
  same_echelon e = record {
    some = e.some;
    steady = e.steady;
    cells = e.cells;
    falling = e.falling;
    off_zero = λ j t l b. ap (λ (f : ℕ → K). f t) (sym (offs j l)) ∙ e.off_zero j t l b;
    dif_later = λ j t l b q. ap (λ (f : ℕ → K). f t) (sym (difs j l)) ∙ e.dif_later j t l b q;
    leads = λ j z l. let s = e.leads j z l in (s.0, s.1, subst (λ (r : ℕ → K). Leads F r s.0) (difs j l) s.2);
    rising = λ i j g h z l b q u v.
        e.rising i j g h z l b q (subst (λ (r : ℕ → K). Leads F r g) (sym (difs i (omega arith))) u) (subst (λ (r : ℕ → K). Leads F r h) (sym (difs j b)) v);
    clear = λ i j h z l y b ne q u.
        ap (λ (f : ℕ → K). f h) (sym (difs i l)) ∙ e.clear i j h z l y b ne q (subst (λ (r : ℕ → K). Leads F r h) (sym (difs j b)) u);
  }

  pub same_canonical : Canonical F n D → Canonical F n E
  same_canonical c = record { echelon = same_echelon c.echelon; reached = ∥∥₁_map c.reached (λ r j z l. same_derived (D.pos j) j l (r j z l)) }

module _ (M : ScaleModel) {S : Type 0} (code : S → Row) (w v : List S) (front : Front code w v) where
  -- the rows of an area
  grid : (b t : ℕ) → b + t < 512 → Grid M code w b t ≡ Grid M code v b t
  grid b t l = ap (vec M) (front b t l)

  pub bounded_front : (m : ℕ) → m < 128 → Bounded code w m → Bounded code v m
  bounded_front m few s = record {
    off = λ h p l b. sym (at (front 0 h (omega arith)) p) ∙ s.off h p l b;
    dif = λ h p l b. sym (at (front 128 h (omega arith)) p) ∙ s.dif h p l b;
  }

  pub sound_front : (len : ℕ) (d : Draft S) → Sound code len w d → Sound code len v d
  sound_front len d s = record { within = s.within; bounded = bounded_front d.places.cells d.places.few s.bounded; outlet = s.outlet }

  module _ (d : Draft S) where
    abbrev D : Diagram (Element M)
    D = diagram_of M code w d

    offs : (t : ℕ) → t < D.places → D.off t ≡ Grid M code v 0 t
    offs t l = grid 0 t (omega (arith, d.places.few))

    difs : (t : ℕ) → t < D.places → D.dif t ≡ Grid M code v 128 t
    difs t l = grid 128 t (omega (arith, d.places.few))

    pub rule_front : (a : Assignment) → rule_of M code w d a ≡ rule_of M code v d a
    rule_front = same_rule (scalars M) (positions d) D (Grid M code v 0) (Grid M code v 128) offs difs

    pub formed_front : FormedDraft M code w d → FormedDraft M code v d
    formed_front = same_formed (scalars M) (positions d) D (Grid M code v 0) (Grid M code v 128) offs difs

    pub derives_front : DerivesDraft M code w d → DerivesDraft M code v d
    derives_front s = record {
      formed = formed_front s.formed;
      reached = λ h l. same_derived (scalars M) (positions d) D (Grid M code v 0) (Grid M code v 128) offs difs (D.pos h) h (omega arith) (s.reached h l);
    }

  module _ (n : ℕ) (f : Assignment → Element M) where
    pub settles_front : (cpos : List ℕ) (size : ℕ) (out : Row) → Settles M code n f w cpos size out → Settles M code n f v cpos size out
    settles_front cpos size out s =
        let C : Diagram (Element M) = celled M code w cpos size (vec M out) in
        let cells : (t : ℕ) → t < size → C.dif t ≡ Grid M code v 288 t = λ t l. grid 288 t (omega (arith, s.few)) in
        record {
          few = s.few;
          canonical = same_canonical (scalars M) n C C.off (Grid M code v 288) (λ t l. refl) cells s.canonical;
          same = λ a. sym (same_rule (scalars M) n C C.off (Grid M code v 288) (λ t l. refl) cells a) ∙ s.same a;
          rows_end = λ h p l b. sym (at (front 288 h (omega (arith, s.few))) p) ∙ s.rows_end h p l b;
          outlet_ends = s.outlet_ends;
        }

    pub settled_front : (r : Result (Form S) TooMany) → Settled M code n f w r → Settled M code n f v r
    settled_front (Ok form) s = settles_front form.places.pos (form.places.cells + 1) (code form.out) s
    settled_front (Err e) s = s

-- what trimming and canonicalising say of working memory, said of the strips: w₀ and w₁ are working memory before and after, v₀ and v₁ the strips
module _ (M : ScaleModel) {S : Type 0} (code : S → Row) (w₀ v₀ w₁ v₁ : List S) (before : Front code v₀ w₀) (after : Front code w₁ v₁) (d : Draft S) where
  pub trimmed_out : (e : Draft S) → (FormedDraft M code w₀ d → TrimmedDraft M code w₀ d w₁ e) → FormedDraft M code v₀ d → TrimmedDraft M code v₀ d v₁ e
  trimmed_out e inner formed =
      let s = inner (formed_front M code v₀ w₀ before d formed) in
      record {
        same = λ a. sym (rule_front M code w₁ v₁ after e a) ∙ s.same a ∙ sym (rule_front M code v₀ w₀ before d a);
        derives = derives_front M code w₁ v₁ after e s.derives;
      }

  pub settled_out : (r : Result (Form S) TooMany) → (DerivesDraft M code w₀ d → Settled M code (positions d) (rule_of M code w₀ d) w₁ r)
      → DerivesDraft M code v₀ d → Settled M code (positions d) (rule_of M code v₀ d) v₁ r
  settled_out r inner derives =
      let s = settled_front M code w₁ v₁ after (positions d) (rule_of M code w₀ d) r (inner (derives_front M code v₀ w₀ before d derives)) in
      subst (λ (f : Assignment → Element M). Settled M code (positions d) f v₁ r) (fun_ext (λ a. sym (rule_front M code v₀ w₀ before d a))) s
