-- What all records of a patch bring into the rows of a draft is the patch's diagram, moved to where its cells stand.
use Rattle.std.proofs.Common.{◌≡◌, ℕ, zero, suc, ◌<◌, ◌≤◌, Bool, true, false, cond, ◌&&◌, eqb, ◌≢◌, List, length, sym, refl, ap, ◌∙◌, ap₂, inl, inr, arith}
use mathlib.Core.Logic.{ite, if_pos, if_neg}
use native.Mathlib.Decide.{ℕ_discrete}
use Rattle.std.proofs.lemmas.Bool.{cases_eq, cond_both, eq-eqb, ne_eqb}
use Rattle.linear.specs.Field.{Field}
use Rattle.linear.specs.Sums.{fold, sum}
use Rattle.linear.proofs.Ring.{ring}
use Rattle.linear.proofs.Sums.{sum_cong, sum_zero, sum_single, sum_swap}
use Rattle.diagram.specs.Passes.{along}
use Rattle.elimination.specs.Lift.{Element, scalars, some_code, up}
use Rattle.elimination.proofs.Lifting.{up_zero}
use Rattle.patch.specs.Faults.{Fine}
use Rattle.patch.specs.Paths.{target, code, off_from, on_from, starts}
use Rattle.patch.specs.Records.{Record, filler, cell, off, on, outlet, unmarked, unclean, nth}
use Rattle.patch.specs.Values.{off_to, dif_to, out_to}
use Rattle.patch.proofs.Numbers.{code_small}
use Rattle.patch.proofs.Values.{target_known}
use Rattle.scale.specs.Model.{ScaleModel}
use Rattle.drafting.specs.Arcs.{from_off, from_on, from_outlet, off_part, dif_part, out_part}
use Rattle.drafting.proofs.Entering.{up_more, up_neg, no_dif}
use Rattle.drafting.proofs.Moving.{ite_zero, along_same}

module _ {K : Type 0} (F : Field K) where
  -- a row with one entry, moved
  pub single_along : (k : ℕ) (ρ : ℕ → ℕ) (t : ℕ) → t < k → (g : ℕ → K) → ((w : ℕ) → w < k → w ≢ t → g w ≡ F.zero) → (u : ℕ)
      → along F k ρ g u ≡ ite (ℕ_discrete u (ρ t)) (g t) F.zero
  single_along k ρ t l g none u =
      sum_single F k (λ w. ite (ℕ_discrete u (ρ w)) (g w) F.zero) t l (λ w h ne. ite_zero F.zero (g w) (ℕ_discrete u (ρ w)) (none w h ne))

  -- a sum of rows, moved
  pub along_sum : (k : ℕ) (ρ : ℕ → ℕ) (n : ℕ) (g : ℕ → ℕ → K) (u : ℕ) → sum F n (λ i. along F k ρ (g i) u) ≡ along F k ρ (λ w. sum F n (λ i. g i w)) u
  along_sum k ρ n g u = sum_swap F n k (λ i w. ite (ℕ_discrete u (ρ w)) (g i w) F.zero) ∙ sum_cong F k _ _ (λ w h. inner w (ℕ_discrete u (ρ w)))
    where
      inner : (w : ℕ) (d : Dec (u ≡ ρ w)) → sum F n (λ i. ite d (g i w) F.zero) ≡ ite d (sum F n (λ i. g i w)) F.zero
      inner w (yes e) = refl
      inner w (no e) = sum_zero F n _ (λ i h. refl)

  -- rows with one entry each, moved and summed
  pub gathered : (k : ℕ) (ρ : ℕ → ℕ) (n : ℕ) (t : ℕ → ℕ) (g : ℕ → ℕ → K) (x : ℕ → K) → ((i : ℕ) → t i < k) → ((i w : ℕ) → w ≢ t i → g i w ≡ F.zero)
      → ((i : ℕ) → x i ≡ g i (t i)) → (u : ℕ) → sum F n (λ i. ite (ℕ_discrete u (ρ (t i))) (x i) F.zero) ≡ along F k ρ (λ w. sum F n (λ i. g i w)) u
  gathered k ρ n t g x inside none is u =
      sum_cong F n _ _ (λ i h. ap (λ y. ite (ℕ_discrete u (ρ (t i))) y F.zero) (is i) ∙ sym (single_along k ρ (t i) (inside i) (g i) (λ w l ne. none i w ne) u))
      ∙ along_sum k ρ n g u

  pub sum_minus : (n : ℕ) (a b : ℕ → K) → F.plus (sum F n a) (F.neg (sum F n b)) ≡ sum F n (λ i. F.plus (a i) (F.neg (b i)))
  unfolding fold
  sum_minus zero a b = F.plus_neg F.zero
  sum_minus (suc n) a b =
      let s : F.plus (F.plus (sum F n a) (a n)) (F.neg (F.plus (sum F n b) (b n))) ≡ F.plus (F.plus (sum F n a) (F.neg (sum F n b))) (F.plus (a n) (F.neg (b n))) = simp ring in
      s ∙ ap (λ x. F.plus x (F.plus (a n) (F.neg (b n)))) (sum_minus n a b)

module _ (M : ScaleModel) where
  -- a sum of codes
  pub fold_code : (n : ℕ) (a : ℕ → ℕ) → ((i : ℕ) → a i < M.q) → fold 0 M.plus n a < M.q
  unfolding fold
  fold_code zero a low = some_code M
  fold_code (suc n) a low = M.field.plus_code _ _ (fold_code n a low) (low n)

  pub up_fold : (n : ℕ) (a : ℕ → ℕ) → ((i : ℕ) → a i < M.q) → up M (fold 0 M.plus n a) ≡ sum (scalars M) n (λ i. up M (a i))
  unfolding fold
  up_fold zero a low = up_zero M
  up_fold (suc n) a low = up_more M _ _ (fold_code n a low) (low n) ∙ ap (λ x. (scalars M).plus x (up M (a n))) (up_fold n a low)

  module _ (order : List ℕ) (cells : List ℕ) (rs : List Record) (fine : (i : ℕ) → Fine order M.q cells (nth rs i)) where
    -- the code of record i, if it is picked and leads to cell w
    abbrev led : (Record → Bool) → ℕ → ℕ → ℕ
    led pick i w = cond (pick (nth rs i) && eqb w (target (nth rs i))) (code (nth rs i)) 0

    led_code : (pick : Record → Bool) (i w : ℕ) → led pick i w < M.q
    led_code pick i w =
        cond_both (pick (nth rs i) && eqb w (target (nth rs i))) (code (nth rs i)) 0 (λ y. y < M.q) (
        λ e. code_small order M.q cells (nth rs i) (some_code M) (fine i)) (λ e. some_code M)

    and_false : (a : Bool) → (a && false) ≡ false
    and_false true = refl
    and_false false = refl

    led_none : (pick : Record → Bool) (i w : ℕ) → w ≢ target (nth rs i) → up M (led pick i w) ≡ (scalars M).zero
    led_none pick i w ne =
        ap (λ b. up M (cond (pick (nth rs i) && b) (code (nth rs i)) 0)) (ne_eqb w (target (nth rs i)) ne)
        ∙ ap (λ b. up M (cond b (code (nth rs i)) 0)) (and_false (pick (nth rs i))) ∙ up_zero M

    to_known : (i : ℕ) → target (nth rs i) < suc (length cells)
    to_known i = omega (arith, target_known order M.q cells (nth rs i) (fine i))

    module _ (ρ : ℕ → ℕ) (apart : (f g : ℕ) → f ≤ length cells → g ≤ length cells → ρ f ≡ ρ g → f ≡ g) where
      arc : (f g t c : ℕ) → f ≤ length cells → g ≤ length cells → ite (ℕ_discrete (ρ f) (ρ g)) (up M c) (scalars M).zero ≡ up M (cond (eqb f g && eqb t t) c 0)
      arc f g t c h k = elim (cases_eq f g) [
        | inl e ↦ if_pos (ℕ_discrete (ρ f) (ρ g)) (ap ρ e) _ _ ∙ sym (ap₂ (λ a b. up M (cond (a && b) c 0)) (eq-eqb f g e) (eq-eqb t t refl))
        | inr ne ↦ if_neg (ℕ_discrete (ρ f) (ρ g)) (λ e. ne (apart f g h k e)) _ _ ∙ sym (ap (λ a. up M (cond (a && eqb t t) c 0)) (ne_eqb f g ne) ∙ up_zero M)
      ]

      off_is : (r : Record) → Fine order M.q cells r → (f : ℕ) → f ≤ length cells → from_off M ρ r (ρ f) ≡ up M (cond (off_from f r && eqb (target r) (target r)) (code r) 0)
      off_is filler a f h = sym (up_zero M)
      off_is (cell i) a f h = sym (up_zero M)
      off_is (off g t c) a f h = arc f g t c h a.from_known
      off_is (on g t c) a f h = sym (up_zero M)
      off_is (outlet t c) a f h = sym (up_zero M)
      off_is unmarked a f h = sym (up_zero M)
      off_is unclean a f h = sym (up_zero M)

      on_is : (r : Record) → Fine order M.q cells r → (f : ℕ) → f ≤ length cells → from_on M ρ r (ρ f) ≡ up M (cond (on_from f r && eqb (target r) (target r)) (code r) 0)
      on_is filler a f h = sym (up_zero M)
      on_is (cell i) a f h = sym (up_zero M)
      on_is (off g t c) a f h = sym (up_zero M)
      on_is (on g t c) a f h = arc f g t c h a.from_known
      on_is (outlet t c) a f h = sym (up_zero M)
      on_is unmarked a f h = sym (up_zero M)
      on_is unclean a f h = sym (up_zero M)

      outlet_is : (r : Record) → from_outlet M r ≡ up M (cond (starts r && eqb (target r) (target r)) (code r) 0)
      outlet_is filler = sym (up_zero M)
      outlet_is (cell i) = sym (up_zero M)
      outlet_is (off g t c) = sym (up_zero M)
      outlet_is (on g t c) = sym (up_zero M)
      outlet_is (outlet t c) = sym (ap (λ b. up M (cond b c 0)) (eq-eqb t t refl))
      outlet_is unmarked = sym (up_zero M)
      outlet_is unclean = sym (up_zero M)

      -- the rows of the patch's diagram, moved to where the cells stand
      pub sum_off : (f u : ℕ) → f ≤ length cells
          → sum (scalars M) (length rs) (λ i. off_part M ρ (nth rs i) (ρ f) u) ≡ along (scalars M) (suc (length cells)) ρ (λ w. up M (off_to M.plus rs f w)) u
      sum_off f u h =
          gathered (scalars M) (suc (length cells)) ρ (length rs) (λ i. target (nth rs i)) (λ i w. up M (led (off_from f) i w)) (λ i. from_off M ρ (nth rs i) (ρ f)) to_known (
          λ i w. led_none (off_from f) i w) (λ i. off_is (nth rs i) (fine i) f h) u
          ∙ along_same (scalars M) ρ (suc (length cells)) _ _ (λ w l. sym (up_fold (length rs) (λ i. led (off_from f) i w) (λ i. led_code (off_from f) i w))) u

      pub sum_dif : (f u : ℕ) → f ≤ length cells
          → sum (scalars M) (length rs) (λ i. dif_part M ρ (nth rs i) (ρ f) u) ≡ along (scalars M) (suc (length cells)) ρ (λ w. up M (dif_to M.plus rs M.neg f w)) u
      sum_dif f u h =
          gathered (scalars M) (suc (length cells)) ρ (length rs) (λ i. target (nth rs i)) minus (
          λ i. (scalars M).plus (from_on M ρ (nth rs i) (ρ f)) ((scalars M).neg (from_off M ρ (nth rs i) (ρ f)))) to_known (
          λ i w ne. ap₂ (λ x y. (scalars M).plus x ((scalars M).neg y)) (led_none (on_from f) i w ne) (led_none (off_from f) i w ne) ∙ no_dif M) (
          λ i. ap₂ (λ x y. (scalars M).plus x ((scalars M).neg y)) (on_is (nth rs i) (fine i) f h) (off_is (nth rs i) (fine i) f h)) u
          ∙ along_same (scalars M) ρ (suc (length cells)) _ _ (λ w l. sym (crossed w)) u
        where
          minus : ℕ → ℕ → Element M
          minus i w = (scalars M).plus (up M (led (on_from f) i w)) ((scalars M).neg (up M (led (off_from f) i w)))

          ons : ℕ → ℕ → ℕ
          ons w i = led (on_from f) i w

          offs : ℕ → ℕ → ℕ
          offs w i = led (off_from f) i w

          crossed : (w : ℕ) → up M (dif_to M.plus rs M.neg f w) ≡ sum (scalars M) (length rs) (λ i. minus i w)
          crossed w =
              let low : fold 0 M.plus (length rs) (offs w) < M.q = fold_code (length rs) (offs w) (λ i. led_code (off_from f) i w) in
              up_more M _ _ (fold_code (length rs) (ons w) (λ i. led_code (on_from f) i w)) (M.field.neg_code _ low)
              ∙ ap₂ (scalars M).plus (up_fold (length rs) (ons w) (λ i. led_code (on_from f) i w)) (
              up_neg M _ low ∙ ap (scalars M).neg (up_fold (length rs) (offs w) (λ i. led_code (off_from f) i w)))
              ∙ sum_minus (scalars M) (length rs) (λ i. up M (ons w i)) (λ i. up M (offs w i))

      pub sum_out : (u : ℕ) → sum (scalars M) (length rs) (λ i. out_part M ρ (nth rs i) u) ≡ along (scalars M) (suc (length cells)) ρ (λ w. up M (out_to M.plus rs w)) u
      sum_out u =
          gathered (scalars M) (suc (length cells)) ρ (length rs) (λ i. target (nth rs i)) (λ i w. up M (led starts i w)) (λ i. from_outlet M (nth rs i)) to_known (
          λ i w. led_none starts i w) (λ i. outlet_is (nth rs i)) u
          ∙ along_same (scalars M) ρ (suc (length cells)) _ _ (λ w l. sym (up_fold (length rs) (λ i. led starts i w) (λ i. led_code starts i w))) u
