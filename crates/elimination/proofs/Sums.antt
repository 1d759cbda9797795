-- What the field laws give of sums, of a step of elimination and of combinations.
use Rattle.std.proofs.Common.{◌≡◌, ℕ, zero, suc, ◌<◌, ◌≤◌, ◌≢◌, sym, refl, ap, ◌∙◌, subst, ap₂, arith}
use native.Mathlib.Decide.{ℕ_discrete, dec_lt}
use Rattle.elimination.specs.Arithmetic.{Arithmetic}
use Rattle.strip.specs.Row.{Row, First, Put}
use Rattle.elimination.specs.Rows.{added, Cleared, sum, combine, Echelon, Balance}

abbrev pub Coded : Arithmetic → Row → Type 0
Coded F f = (p : ℕ) → f p < F.q

-- a row equal at each place
pub at : {f g : Row} → f ≡ g → (p : ℕ) → f p ≡ g p
at e p = ap (λ (k : Row). k p) e

pub first_unique : (len : ℕ) (f : Row) (h k : ℕ) → First len f h → First len f k → h ≡ k
first_unique len f h k a b =
    elim (dec_lt h k) [
      | yes l ↦ absurd (a.found (omega arith) (b.before h l))
      | no m ↦
          elim (dec_lt k h) [
            | yes l ↦ absurd (b.found (omega arith) (a.before k l))
            | no n ↦ omega arith
          ]
    ]

-- once the first filled place is cleared, the next one is later
pub first_rises : (len : ℕ) (f g : Row) (h k : ℕ) → h < len → First len f h → g h ≡ 0 → ((p : ℕ) → (p ≡ h → ⊥) → g p ≡ f p) → First len g k → h < k
first_rises len f g h k l a z rest b =
    elim (dec_lt h k) [
      | yes o ↦ o
      | no o ↦
          elim (ℕ_discrete k h) [
            | yes e ↦ absurd (b.found (omega arith) (ap g e ∙ z))
            | no n ↦ absurd (b.found (omega arith) (rest k n ∙ a.before k (omega arith)))
          ]
    ]

module _ (F : Arithmetic) where
  open F use {q, plus, times, neg, inv, one_code, plus_code, times_code, neg_code, inv_code, plus_comm, times_comm, times_assoc, plus_assoc, plus_zero, times_one, plus_neg, times_inv, times_plus}

  pub zero_code : 0 < q
  zero_code = let h : 1 < q = one_code in omega arith

  pub zero_plus : (a : ℕ) → a < q → plus a 0 ≡ a
  zero_plus a h = plus_comm a 0 ∙ plus_zero a h

  -- (a + b) + c = (a + c) + b
  pub plus_swap : (a b c : ℕ) → plus (plus a b) c ≡ plus (plus a c) b
  plus_swap a b c = plus_assoc a b c ∙ ap (plus a) (plus_comm b c) ∙ sym (plus_assoc a c b)

  pub cancel : (a b : ℕ) → a < q → plus a b ≡ b → a ≡ 0
  cancel a b ha e =
      sym (zero_plus a ha) ∙ ap (plus a) (sym (plus_comm b (neg b) ∙ plus_neg b)) ∙ sym (plus_assoc a b (neg b))
      ∙ ap (λ x. plus x (neg b)) e ∙ plus_comm b (neg b) ∙ plus_neg b

  pub times_zero : (a : ℕ) → times a 0 ≡ 0
  times_zero a = cancel (times a 0) (times a 0) (times_code a 0) (sym (times_plus a 0 0) ∙ ap (times a) (plus_zero 0 zero_code))

  pub zero_times : (a : ℕ) → times 0 a ≡ 0
  zero_times a = times_comm 0 a ∙ times_zero a

  pub plus_times : (a b c : ℕ) → times (plus a b) c ≡ plus (times a c) (times b c)
  plus_times a b c = times_comm (plus a b) c ∙ times_plus c a b ∙ ap₂ plus (times_comm c a) (times_comm c b)

  pub undo : (f x : ℕ) → plus (times (neg f) x) (times f x) ≡ 0
  undo f x = rw (← plus_times, plus_neg, zero_times)

  pub take_back : (a f x : ℕ) → a < q → plus (plus a (times (neg f) x)) (times f x) ≡ a
  take_back a f x ha = rw (plus_assoc, undo, zero_plus)

  -- a step of elimination
  pub cleared : (f r g : Row) (h c : ℕ) → Coded F f → Coded F r → c ≡ times (f h) (inv (r h)) → g ≡ added F f (neg c) r → Cleared F f r h c g
  cleared f r g h c hf hr ec eg =
      let back : (p : ℕ) → f p ≡ plus (g p) (times c (r p)) = λ p. sym (ap (λ x. plus x (times c (r p))) (at eg p) ∙ take_back (f p) c (r p) (hf p)) in
      let gc : (p : ℕ) → g p < q = λ p. rw (at eg p) (plus_code (f p) (times (neg c) (r p))) in
      record {
        factor = rw ec (times_code (f h) (inv (r h)));
        is = at eg;
        back = back;
        gone = λ n.
            let e : times c (r h) ≡ f h =
            ap (λ x. times x (r h)) ec ∙ times_assoc (f h) (inv (r h)) (r h) ∙ ap (times (f h)) (times_inv (r h) (hr h) n) ∙ times_comm (f h) 1 ∙ times_one (f h) (hf h) in
            cancel (g h) (f h) (gc h) (ap (plus (g h)) (sym e) ∙ sym (back h));
        kept = λ p e. at eg p ∙ ap (λ x. plus (f p) (times (neg c) x)) e ∙ ap (plus (f p)) (times_zero (neg c)) ∙ zero_plus (f p) (hf p);
        same = λ z p.
            let none : c ≡ 0 = ec ∙ ap (λ x. times x (inv (r h))) z ∙ zero_times (inv (r h)) in
            sym (back p ∙ ap (plus (g p)) (ap (λ x. times x (r p)) none ∙ zero_times (r p)) ∙ zero_plus (g p) (gc p));
      }

  pub sum_code : (n : ℕ) (t : ℕ → ℕ) → sum F n t < q
  unfolding sum
  sum_code zero t = zero_code
  sum_code (suc n) t = plus_code (sum F n t) (t n)

  pub combine_code : (n : ℕ) (a : ℕ → ℕ) (R : ℕ → Row) (p : ℕ) → combine F n a R p < q
  combine_code n a R p = sum_code n (λ h. times (a h) (R h p))

  pub sum_same : (n : ℕ) (t u : ℕ → ℕ) → ((i : ℕ) → i < n → t i ≡ u i) → sum F n t ≡ sum F n u
  unfolding sum
  sum_same zero t u e = refl
  sum_same (suc n) t u e = ap₂ plus (sum_same n t u (λ i h. e i (omega arith))) (e n (omega arith))

  pub sum_zero : (n : ℕ) (t : ℕ → ℕ) → ((i : ℕ) → i < n → t i ≡ 0) → sum F n t ≡ 0
  unfolding sum
  sum_zero zero t e = refl
  sum_zero (suc n) t e = ap₂ plus (sum_zero n t (λ i h. e i (omega arith))) (e n (omega arith)) ∙ plus_zero 0 zero_code

  -- one term more by x
  pub sum_more : (n : ℕ) (t u : ℕ → ℕ) (h x : ℕ) → h < n → u h ≡ plus (t h) x → ((i : ℕ) → i ≢ h → u i ≡ t i) → sum F n u ≡ plus (sum F n t) x
  unfolding sum
  sum_more zero t u h x l e o = absurd (omega arith)
  sum_more (suc n) t u h x l e o =
      elim (ℕ_discrete h n) [
        | yes k ↦
            ap₂ plus (sum_same n u t (λ i b. o i (omega arith))) (subst (λ m. u m ≡ plus (t m) x) k e) ∙ sym (plus_assoc (sum F n t) (t n) x)
        | no k ↦
            ap₂ plus (sum_more n t u h x (omega arith) e o) (o n (λ b. k (sym b))) ∙ plus_swap (sum F n t) x (t n)
      ]

  -- blank coefficients combine to nothing
  pub combine_blank : (n : ℕ) (a : ℕ → ℕ) (R : ℕ → Row) → ((h : ℕ) → a h ≡ 0) → (p : ℕ) → combine F n a R p ≡ 0
  combine_blank n a R z p = sum_zero n _ (λ h b. ap (λ x. times x (R h p)) (z h) ∙ zero_times (R h p))

  module _ (len : ℕ) (R : ℕ → Row) (h : ℕ) (l : h < len) where
    -- the first filled place rises
    pub rises : Echelon len R → R h h ≢ 0 → (f g : Row) (c h' : ℕ) → First len f h → Cleared F f (R h) h c g → First len g h' → h < h'
    rises shape filled f g c h' ff cl fg =
        elim (dec_lt h h') [
          | yes k ↦ k
          | no k ↦ absurd (fg.found (omega arith) (clean h' (omega arith)))
        ]
      where
        clean : (p : ℕ) → p ≤ h → g p ≡ 0
        clean p b =
            elim (ℕ_discrete p h) [
              | yes e ↦ subst (λ n. g n ≡ 0) (sym e) (cl.gone filled)
              | no n ↦ cl.kept p (shape.low h p l (omega arith)) ∙ ff.before p (omega arith)
            ]

    -- what is taken from the row is noted in the coefficients
    pub balanced : (f v g a b : Row) (c width : ℕ) → len ≤ width → a h ≡ 0 → Put width q a h c b → Cleared F v (R h) h c g → Balance F len a R f v → Balance F len b R f g
    balanced f v g a b c width wide z put cl bal p =
        let x : ℕ = times c (R h p) in
        let s : ℕ = combine F len a R p in
        let here : times (b h) (R h p) ≡ plus (times (a h) (R h p)) x =
        ap (λ y. times y (R h p)) (put.here (omega arith) cl.factor)
        ∙ sym (ap (λ y. plus (times y (R h p)) x) z ∙ ap (λ y. plus y x) (zero_times (R h p)) ∙ plus_zero x (times_code c (R h p))) in
        let more : combine F len b R p ≡ plus s x =
        sum_more len (λ i. times (a i) (R i p)) (λ i. times (b i) (R i p)) h x l here (λ i n. ap (λ y. times y (R i p)) (put.rest i n)) in
        bal p ∙ ap (λ y. plus y s) (cl.back p) ∙ plus_swap (g p) x s ∙ plus_assoc (g p) s x ∙ ap (plus (g p)) (sym more)
