-- A row moved to other places, one code after the other.
use Rattle.std.proofs.Common.{◌≡◌, ℕ, suc, ◌+◌, ◌-◌, ◌<◌, ◌≤◌, cond, ◌||◌, eqb, ltb, List, length, get_or, drop, get_or-take, get_or-drop, length-take, length-drop, sym, refl, ap, ◌∙◌, ap₂, arith}
use mathlib.Core.Logic.{ite}
use native.Mathlib.Decide.{ℕ_discrete}
use Rattle.std.proofs.lemmas.Bool.{cond_both, ne_eqb, le-ltb}
use Rattle.std.proofs.lemmas.List.{take_all}
use Rattle.linear.specs.Field.{Field}
use Rattle.linear.specs.Sums.{fold}
use Rattle.linear.proofs.Sums.{sum_cong, sum_zero}
use Rattle.diagram.specs.Passes.{along}
use Rattle.elimination.specs.Lift.{scalars, up, vec}
use Rattle.elimination.specs.Rows.{Rows}
use Rattle.elimination.proofs.Grids.{rows_read}
use Rattle.scale.specs.Model.{ScaleModel}
use Rattle.strip.specs.Row.{Row}
use Rattle.drafting.specs.declared.form.FormView.{FormView}
use Rattle.drafting.specs.declared.part.Part.{Part}
use Rattle.drafting.specs.declared.plan.Plan.{Plan}
use Rattle.drafting.specs.Arcs.{spots}
use Rattle.drafting.specs.Drafts.{AddedAt}
use Rattle.drafting.specs.Forms.{place_of, PartOf}
use Rattle.drafting.proofs.Entering.{up_more}

-- how many cells a form has
abbrev pub size : {S : Type 0} → FormView S → ℕ
size form = length form.inputs.now

-- the row that a strip of a list holds
pub row_read : {S : Type 0} (code : S → Row) (xs : List S) (i : ℕ) (x : S) → i < length xs → x ≡ get_or xs i x → Rows code xs 0 i ≡ code x
row_read code xs i x h e = rows_read code xs 0 i x (omega arith) (e ∙ ap (λ (k : ℕ). get_or xs k x) (omega arith))

pub ite_zero : {K P : Type 0} (zero x : K) (d : Dec P) → x ≡ zero → ite d x zero ≡ zero
ite_zero zero x (yes p) e = e
ite_zero zero x (no p) e = refl

module _ {K : Type 0} (F : Field K) (ρ : ℕ → ℕ) where
  pub along_none : (r : ℕ → K) (u : ℕ) → along F 0 ρ r u ≡ F.zero
  unfolding fold
  along_none r u = refl

  pub along_more : (k : ℕ) (r : ℕ → K) (u : ℕ) → along F (k + 1) ρ r u ≡ F.plus (along F k ρ r u) (ite (ℕ_discrete u (ρ k)) (r k) F.zero)
  unfolding fold
  along_more k r u = let s : k + 1 ≡ suc k = omega arith in ap (λ (i : ℕ). along F i ρ r u) s

  pub along_blank : (k : ℕ) (r : ℕ → K) → ((w : ℕ) → w < k → r w ≡ F.zero) → (u : ℕ) → along F k ρ r u ≡ F.zero
  along_blank k r e u = sum_zero F k _ (λ w h. ite_zero F.zero (r w) (ℕ_discrete u (ρ w)) (e w h))

  pub along_same : (k : ℕ) (r s : ℕ → K) → ((w : ℕ) → w < k → r w ≡ s w) → (u : ℕ) → along F k ρ r u ≡ along F k ρ s u
  along_same k r s e u = sum_cong F k _ _ (λ w h. ap (λ x. ite (ℕ_discrete u (ρ w)) x F.zero) (e w h))

module _ (M : ScaleModel) (ρ : ℕ → ℕ) where
  -- the code at t is added at ρ t
  pub added_along : (len : ℕ) (f r g : Row) (t place x : ℕ) → AddedAt M len f place x g → place ≡ ρ t → x ≡ r t → place < len → ((p : ℕ) → f p < M.q) → x < M.q
      → ((u : ℕ) → vec M f u ≡ along (scalars M) t ρ (vec M r) u) → (u : ℕ) → vec M g u ≡ along (scalars M) (t + 1) ρ (vec M r) u
  added_along len f r g t place x A is x_is low coded code before u = go (ℕ_discrete u (ρ t)) ∙ sym (along_more (scalars M) ρ t (vec M r) u)
    where
      go : (d : Dec (u ≡ ρ t)) → up M (g u) ≡ (scalars M).plus (along (scalars M) t ρ (vec M r) u) (ite d (up M (r t)) (scalars M).zero)
      go (yes e) =
          ap (λ (p : ℕ). up M (g p)) (e ∙ sym is) ∙ ap (up M) (A.here low code) ∙ up_more M (f place) x (coded place) code
          ∙ ap₂ (scalars M).plus (ap (λ (p : ℕ). up M (f p)) (is ∙ sym e) ∙ before u) (ap (up M) x_is)
      go (no e) = ap (up M) (A.rest u (λ h. e (h ∙ is))) ∙ before u ∙ sym ((scalars M).plus_zero _)

-- no place is past the steady place
pub place_low : (part : Part) (t : ℕ) → place_of part t ≤ part.steady
place_low part t = cond_both (eqb t 0 || ltb (length part.places.now) t) _ _ (λ (x : ℕ). x ≤ part.steady) (λ _. omega arith) (λ _. part.bound _)

pub spot_low : (plan : Plan) (f : ℕ) → spots plan f ≤ plan.places.cells
spot_low plan f = cond_both (eqb f 0 || ltb 128 f) _ _ (λ (x : ℕ). x ≤ plan.places.cells) (λ _. omega arith) (λ _. plan.bound _)

-- the place that a part gives to one of its cells is the plan's
pub place_lent : (plan : Plan) (from count : ℕ) (part : Part) → PartOf plan from count part → (t : ℕ) → 0 < t → t ≤ count
    → place_of part t ≡ get_or plan.place (from + t - 1) 0
place_lent plan from count part lent t some few =
    let size : length part.places.now ≡ count = ap length lent.places ∙ grind (arith, lent.within, length-take, length-drop) in
    let there : from + (t - 1) ≡ from + t - 1 = omega arith in
    ap₂ (λ a b. cond (a || b) part.steady (get_or part.places.now (t - 1) 0)) (ne_eqb t 0 (λ e. omega arith)) (le-ltb (length part.places.now) t (omega arith))
    ∙ ap (λ (l : List ℕ). get_or l (t - 1) 0) lent.places ∙ get_or-take count (drop from plan.place) (t - 1) 0 (omega arith) ∙ get_or-drop from plan.place (t - 1) 0
    ∙ ap (λ (i : ℕ). get_or plan.place i 0) there

pub spot_lent : (plan : Plan) (part : Part) → PartOf plan 0 128 part → length plan.place ≡ 128 → (f : ℕ) → place_of part f ≡ spots plan f
spot_lent plan part lent long f =
    let whole : part.places.now ≡ plan.place = lent.places ∙ take_all 128 plan.place (omega (arith, long)) in rw (lent.steady, whole, long) refl
