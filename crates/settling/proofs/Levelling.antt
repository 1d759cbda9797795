-- One position of the backward pass, over any field: a tidy table of the gains of its places gives the next cells.
use Rattle.std.proofs.Common.{◌≡◌, ℕ, suc, ◌+◌, ◌-◌, ◌<◌, ◌≤◌, Bool, ◌≢◌, sym, refl, ap, ◌∙◌, subst, ap₂, arith}
use mathlib.Core.Logic.{ite, if_pos, if_neg}
use native.Mathlib.Decide.{dec_lt, dec_le}
use Rattle.linear.specs.Field.{Field as Scalars}
use Rattle.linear.specs.Linear.{comb, SpannedOn}
use Rattle.linear.specs.Sums.{sum}
use Rattle.linear.proofs.Ring.{zero_times}
use Rattle.linear.proofs.Sums.{sum_cong}
use Rattle.diagram.specs.Canonical.{Derived}
use Rattle.diagram.specs.Diagram.{Assignment, Diagram, Formed, val, rule}
use Rattle.diagram.specs.Packed.{count, nth, Tidy}
use Rattle.diagram.specs.Passes.{Extends, Built, Imaged, Rows, Images}
use Rattle.diagram.proofs.Backward.{built_next, imaged_next, built_cells, rows_fewer}
use Rattle.diagram.proofs.Levels.{sum_mid}
use Rattle.diagram.proofs.Pack.{packs, packed_reduced, packed_span}
use Rattle.diagram.proofs.Smallest.{smallest}

-- a row that has nothing before e, over the images of the places from e on
pub from_on : {K : Type 0} (F : Scalars K) (size e : ℕ) (r : ℕ → K) (img : ℕ → ℕ → K) → e ≤ size → ((t : ℕ) → t < e → r t ≡ F.zero) → (u : ℕ)
    → comb F size r img u ≡ sum F (size - e) (λ i. F.times (r (e + i)) (img (e + i) u))
from_on F size e r img l z u =
    sum_mid F e (size - e) size (λ t. F.times (r t) (img t u)) (omega arith) (λ t k. ap (λ x. F.times x (img t u)) (z t k) ∙ zero_times F (img t u)) (λ t k i. absurd (omega arith))

module _ {K : Type 0} (F : Scalars K) (n m : ℕ) (D : Diagram K) (formed : Formed F n D) (size : D.places ≡ m + 1) (f : Assignment → K)
    (reached : (h : ℕ) → h < m → Derived F f (D.pos h) (val F n D h)) (C : Diagram K) (img : ℕ → ℕ → K) (a e : ℕ) (some : a < e) (ends : e ≤ m) (low : D.pos a < n)
    (same : (v : ℕ) → a ≤ v → v < e → D.pos v ≡ D.pos a) (earlier : (v : ℕ) → v < a → D.pos v < D.pos a) (later : (v : ℕ) → e ≤ v → v < D.places → D.pos a < D.pos v)
    (built : Built F n f C (D.pos e)) (imaged : (h : ℕ) → e ≤ h → h < D.places → (x : Assignment) → val F n D h x ≡ comb F C.places (img h) (val F n C) x)
    (mark : ℕ → Bool) (T : ℕ → ℕ → K) (tidy : Tidy F C.places mark T) (G : ℕ → ℕ → K)
    (gains : (h u : ℕ) → a ≤ h → h < e → u < C.places → G h u ≡ comb F D.places (D.dif h) img u)
    (made : (k : ℕ) → k < C.places → (c : ℕ → K) × ((u : ℕ) → u < C.places → T k u ≡ sum F (e - a) (λ i. F.times (c i) (G (a + i) u))))
    (spans : (h : ℕ) → a ≤ h → h < e → SpannedOn F (λ u. u < C.places) C.places T (G h)) where
  open F use {plus as ◌⊕◌, times as ◌⊗◌}

  infixl 60 ◌⊕◌
  infixl 70 ◌⊗◌
  abbrev pub p : ℕ
  p = D.pos a

  abbrev pub many : ℕ
  many = count mark C.places

  abbrev pub rows : ℕ → ℕ → K
  rows i = T (nth mark C.places i)

  -- the places of the position
  here : (h : ℕ) → h < D.places → D.pos h ≡ p → (a ≤ h) × h < e
  here h l q = (
    elim (dec_le a h) [ yes o ↦ o | no o ↦ absurd (omega (arith, earlier h (omega arith))) ],
    elim (dec_lt h e) [ yes o ↦ o | no o ↦ absurd (omega (arith, later h (omega arith) l)) ],
  )

  built' : Built F n f C (suc p)
  built' = record {
    echelon = built.echelon;
    above = λ j l. omega (arith, built.above j l, later e (omega arith) (omega arith));
    reached = built.reached;
  }

  image' : Imaged F n D C (suc p) img
  image' h l k x = imaged h (elim (dec_le e h) [ yes o ↦ o | no o ↦ absurd (not_here (omega arith) (dec_lt h a)) ]) l x
    where
      not_here : h < e → Dec (h < a) → ⊥
      not_here q (yes o) = omega (arith, earlier h o)
      not_here q (no o) = omega (arith, same h (omega arith) q)

  spread : (ℕ → K) → ℕ → K
  spread c h = ite (dec_lt h a) F.zero (ite (dec_lt h e) (c (h - a)) F.zero)

  spread_low : (c : ℕ → K) (h : ℕ) → h < a → spread c h ≡ F.zero
  unfolding spread
  spread_low c h l = if_pos (dec_lt h a) l F.zero (ite (dec_lt h e) (c (h - a)) F.zero)

  spread_high : (c : ℕ → K) (h : ℕ) → e ≤ h → spread c h ≡ F.zero
  unfolding spread
  spread_high c h l = if_neg (dec_lt h a) (λ q. omega arith) F.zero (ite (dec_lt h e) (c (h - a)) F.zero) ∙ if_neg (dec_lt h e) (λ q. omega arith) (c (h - a)) F.zero

  spread_at : (c : ℕ → K) (i : ℕ) → i < e - a → spread c (a + i) ≡ c i
  unfolding spread
  spread_at c i l =
      let there : a + i - a ≡ i = omega arith in
      if_neg (dec_lt (a + i) a) (λ q. omega arith) F.zero (ite (dec_lt (a + i) e) (c (a + i - a)) F.zero) ∙ if_pos (dec_lt (a + i) e) (omega arith) (c (a + i - a)) F.zero ∙ ap c there

  spread_off : (c : ℕ → K) (h : ℕ) → D.pos h ≢ p → spread c h ≡ F.zero
  spread_off c h ne = elim (dec_lt h a) [
    | yes o ↦ spread_low c h o
    | no o ↦ elim (dec_lt h e) [
      | yes q ↦ absurd (ne (same h (omega arith) q))
      | no q ↦ spread_high c h (omega arith)
    ]
  ]

  gain_rows : Rows F D C p many rows (nth mark C.places) img
  gain_rows = record {
    reduced = packed_reduced F C.places mark T tidy;
    inside = (packs mark C.places).below;
    made = λ i l.
        let k : ℕ = nth mark C.places i in
        let s = made k ((packs mark C.places).below i l) in (
          spread s.0,
          (λ h b ne. spread_off s.0 h ne),
          λ u b.
              s.1 u b
              ∙ sym (
              sum_mid F a (e - a) D.places (λ h. spread s.0 h ⊗ comb F D.places (D.dif h) img u) (omega arith)
              (λ h q. ap (λ x. x ⊗ comb F D.places (D.dif h) img u) (spread_low s.0 h q) ∙ zero_times F _)
              (λ h q r. ap (λ x. x ⊗ comb F D.places (D.dif h) img u) (spread_high s.0 h (omega arith)) ∙ zero_times F _)
              ∙ sum_cong F (e - a) _ _ (λ i q. ap₂ ◌⊗◌ (spread_at s.0 i q) (sym (gains (a + i) u (omega arith) (omega arith) b)))),
        );
  }

  reach : (h : ℕ) → h < D.places → D.pos h ≡ p → Derived F f p (val F n D h)
  reach h l q = let s = here h l q in subst (λ (r : ℕ). Derived F f r (val F n D h)) q (reached h (omega arith))

  pub next_built : (C' : Diagram K) → Extends F C C' p many rows → Built F n f C' p
  next_built C' ext = built_next F n f D C formed p low img built' image' many rows (nth mark C.places) gain_rows C' ext reach

  pub next_imaged : (C' : Diagram K) → Extends F C C' p many rows → (img' : ℕ → ℕ → K) → Images F D C p many (nth mark C.places) img img'
      → (h : ℕ) → a ≤ h → h < D.places → (x : Assignment) → val F n D h x ≡ comb F C'.places (img' h) (val F n C') x
  next_imaged C' ext img' im h q l x =
      imaged_next F n f D C formed p low img built' image' many rows (nth mark C.places) gain_rows C' ext img' im spanned h l
      (elim (dec_lt h e) [ yes o ↦ omega (arith, same h q o) | no o ↦ omega (arith, later h (omega arith) l) ]) x
    where
      spanned : (h : ℕ) → h < D.places → D.pos h ≡ p → SpannedOn F (λ u. u < C.places) many rows (comb F D.places (D.dif h) img)
      spanned h l q =
          let s = here h l q in
          let g = spans h s.0 s.1 in
          packed_span F C.places mark T tidy (comb F D.places (D.dif h) img) (g.0, λ u b. sym (gains h u s.0 s.1 b) ∙ g.1 u b)

  -- C with k more cells
  module _ (k : ℕ) (few : k ≤ many) where
    more : Diagram K
    more = record {
      places = C.places + k;
      pos = λ j. ite (dec_lt j C.places) (C.pos j) p;
      off = λ _ _. F.zero;
      dif = λ j t. ite (dec_lt t C.places) (ite (dec_lt j C.places) (C.dif j t) (rows (j - C.places) t)) F.zero;
      out = C.out;
    }

    extends : Extends F C more p k rows
    unfolding more
    extends = record {
      places = refl;
      pos_old = λ j l. if_pos (dec_lt j C.places) l (C.pos j) p;
      pos_new = λ i l. if_neg (dec_lt (C.places + i) C.places) (λ q. omega arith) (C.pos (C.places + i)) p;
      off_zero = λ j t l b. refl;
      dif_old = λ j t l b.
          if_pos (dec_lt t C.places) b (ite (dec_lt j C.places) (C.dif j t) (rows (j - C.places) t)) F.zero ∙ if_pos (dec_lt j C.places) l (C.dif j t) (rows (j - C.places) t);
      dif_new = λ i t l b.
          let there : C.places + i - C.places ≡ i = omega arith in
          if_pos (dec_lt t C.places) b (ite (dec_lt (C.places + i) C.places) (C.dif (C.places + i) t) (rows (C.places + i - C.places) t)) F.zero
          ∙ if_neg (dec_lt (C.places + i) C.places) (λ q. omega arith) (C.dif (C.places + i) t) (rows (C.places + i - C.places) t) ∙ ap (λ i. rows i t) there;
      dif_none = λ j t l b q. if_neg (dec_lt t C.places) (λ r. omega arith) (ite (dec_lt j C.places) (C.dif j t) (rows (j - C.places) t)) F.zero;
    }

    pub at_least : (E : Diagram K) → Formed F n E → ((x : Assignment) → rule F n E x ≡ f x) → C.places + k ≤ E.places
    unfolding more
    at_least E form agree =
        smallest F n f more E (built_cells F n f more p
        (built_next F n f D C formed p low img built' image' k rows (nth mark C.places) (rows_fewer F D C p many k rows (nth mark C.places) img few gain_rows) more extends reach)) form agree
