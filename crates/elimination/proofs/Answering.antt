-- What a scale and a strip answer at every byte is what the arithmetic of every number says.
use Rattle.std.proofs.Common.{◌≡◌, ℕ, ◌<◌, ◌≤◌, Bool, cond, ◌&&◌, ltb, sym, ap, ◌∙◌, ap₂, arith}
use mathlib.Core.Path.{fun_ext}
use native.Mathlib.Decide.{dec_lt}
use Rattle.std.proofs.lemmas.Bool.{lt-ltb, le-ltb}
use Rattle.scale.specs.Model.{ScaleModel, at_code, at_codes}
use Rattle.strip.specs.Row.{Row, Added}
use Rattle.elimination.specs.Arithmetic.{arithmetic, plus_is, times_is, neg_is, inv_is}
use Rattle.elimination.specs.Rows.{added}
use Rattle.elimination.proofs.Sums.{zero_plus}

module _ (M : ScaleModel) where
  pub times_answer : (a b : ℕ) → at_codes M.q M.times a b ≡ (arithmetic M).times a b
  times_answer a b = elim (dec_lt a M.q) [
    | no n ↦ (
        let l : M.q ≤ a = omega arith in
        ap (λ (t : Bool). cond (t && ltb b M.q) (M.times a b) 0) (le-ltb a M.q l) ∙ sym ((arithmetic M).times_off a b l)
        )
    | yes l ↦ elim (dec_lt b M.q) [
      | no n ↦ (
          let k : M.q ≤ b = omega arith in
          ap₂ (λ (t u : Bool). cond (t && u) (M.times a b) 0) (lt-ltb a M.q l) (le-ltb b M.q k) ∙ sym ((arithmetic M).times_comm a b ∙ (arithmetic M).times_off b a k)
          )
      | yes k ↦ ap₂ (λ (t u : Bool). cond (t && u) (M.times a b) 0) (lt-ltb a M.q l) (lt-ltb b M.q k) ∙ sym (times_is M a b l k)
    ]
  ]

  pub neg_answer : (a : ℕ) → at_code M.q M.neg a ≡ (arithmetic M).neg a
  neg_answer a = elim (dec_lt a M.q) [
    | yes l ↦ ap (λ (t : Bool). cond t (M.neg a) 0) (lt-ltb a M.q l) ∙ sym (neg_is M a l)
    | no n ↦ (let l : M.q ≤ a = omega arith in ap (λ (t : Bool). cond t (M.neg a) 0) (le-ltb a M.q l) ∙ sym ((arithmetic M).neg_off a l))
  ]

  pub inv_answer : (a : ℕ) → at_code M.q M.inv a ≡ (arithmetic M).inv a
  inv_answer a = elim (dec_lt a M.q) [
    | yes l ↦ ap (λ (t : Bool). cond t (M.inv a) 0) (lt-ltb a M.q l) ∙ sym (inv_is M a l)
    | no n ↦ (let l : M.q ≤ a = omega arith in ap (λ (t : Bool). cond t (M.inv a) 0) (le-ltb a M.q l) ∙ sym ((arithmetic M).inv_off a l))
  ]

  pub add_answer : (f : Row) (c : ℕ) (t g : Row) → ((p : ℕ) → f p < M.q) → ((p : ℕ) → t p < M.q) → Added M f c t g → g ≡ added (arithmetic M) f c t
  add_answer f c t g hf ht add = fun_ext (λ p. elim (dec_lt c M.q) [
    | yes l ↦ (
        let k : M.times c (t p) < M.q = M.field.times_code c (t p) l (ht p) in
        add.sums l p ∙ sym (ap ((arithmetic M).plus (f p)) (times_is M c (t p) l (ht p)) ∙ plus_is M (f p) (M.times c (t p)) (hf p) k)
        )
    | no n ↦ (
        let l : M.q ≤ c = omega arith in
        add.off l p ∙ sym (ap ((arithmetic M).plus (f p)) ((arithmetic M).times_off c (t p) l) ∙ zero_plus (arithmetic M) (f p) (hf p))
        )
  ])
