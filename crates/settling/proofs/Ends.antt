-- The backward pass at its start and at its end.
use Rattle.std.proofs.Common.{◌≡◌, ℕ, ◌+◌, ◌-◌, ◌<◌, ◌≤◌, List, get_or, sym, refl, ap, ◌∙◌, arith}
use native.Mathlib.Decide.{dec_lt}
use Rattle.linear.specs.Linear.{comb}
use Rattle.linear.specs.Sums.{sum as total}
use Rattle.linear.proofs.Ring.{times_zero}
use Rattle.linear.proofs.Sums.{sum_zero}
use Rattle.diagram.specs.Diagram.{Assignment, Formed, rule}
use Rattle.diagram.proofs.Backward.{built_start, imaged_start, built_canonical, built_rule}
use Rattle.scale.specs.Model.{ScaleModel}
use Rattle.elimination.specs.Arithmetic.{arithmetic}
use Rattle.elimination.specs.Lift.{Element, scalars, up, vec, Grid}
use Rattle.strip.specs.Row.{Row, zeros}
use Rattle.elimination.specs.Rows.{Rows}
use Rattle.elimination.proofs.Lifting.{up_one, up_none, up_is_zero}
use Rattle.elimination.proofs.Sums.{Coded, at}
use Rattle.settling.specs.Backing.{celled, Cellular, Backs, Settles}
use Rattle.settling.specs.Draft.{drawn, Ordered}
use Rattle.settling.proofs.Levelling.{from_on}

module _ (M : ScaleModel) {S : Type 0} (code : S → Row) (m : ℕ) (w : List S) (cpos : List ℕ) (cell : Rows code w 288 0 ≡ zeros) (one : Rows code w 384 m 0 ≡ 1)
    (none : (p : ℕ) → 1 ≤ p → Rows code w 384 m p ≡ 0) where
  pub begun_cellular : Cellular code w m 1 m
  begun_cellular = record {
    can = λ h p l b. (let z : h ≡ 0 = omega arith in ap (λ (i : ℕ). Rows code w 288 i p) z ∙ at cell p);
    img = λ h p l b k. (let z : h ≡ m = omega arith in ap (λ (i : ℕ). Rows code w 384 i p) z ∙ none p k);
  }

  module _ (pos : List ℕ) (order : Ordered m pos) (position : get_or cpos 0 0 ≡ get_or pos m 0) (off dif : ℕ → ℕ → Element M) (out out' : ℕ → Element M) (f : Assignment → Element M)
      (formed : Formed (scalars M) (get_or pos m 0) (drawn m pos off dif out))
      (offs : (h u : ℕ) → h < m → Grid M code w 0 h u ≡ off h u) (difs : (h u : ℕ) → h < m → Grid M code w 128 h u ≡ dif h u) where
    pub begun : Backs M code (get_or pos m 0) m (drawn m pos off dif out) f out' w cpos 1 m
    begun =
        let blank : Grid M code w 288 0 0 ≡ (scalars M).zero = up_is_zero M (at cell 0) in record {
          off = offs;
          dif = difs;
          built = built_start (scalars M) (get_or pos m 0) f (celled M code w cpos 1 out') refl position refl blank;
          imaged = λ h l b x.
              let z : h ≡ m = omega arith in
              imaged_start (scalars M) (get_or pos m 0) f (celled M code w cpos 1 out') refl position refl blank (drawn m pos off dif out) formed (Grid M code w 384)
              (λ k q r. ap (up M) (ap (λ (i : ℕ). Rows code w 384 i 0) (last k q r) ∙ one) ∙ up_one M) h (omega arith) (omega (arith, ap (λ (t : ℕ). get_or pos t 0) z)) x;
        }
      where
        last : (k : ℕ) → k < m + 1 → get_or pos m 0 ≤ get_or pos k 0 → k ≡ m
        last k q r = elim (dec_lt k m) [ yes o ↦ absurd (omega (arith, order.cells k o)) | no o ↦ omega arith ]

module _ (M : ScaleModel) {S : Type 0} (code : S → Row) (m : ℕ) (w : List S) (cpos : List ℕ) (size : ℕ) (few : size ≤ 32) (cellular : Cellular code w m size 0)
    (pos : List ℕ) (off dif : ℕ → ℕ → Element M) (out : ℕ → Element M) (f : Assignment → Element M) (r : Row) (hr : Coded (arithmetic M) r)
    (backs : Backs M code (get_or pos m 0) m (drawn m pos off dif out) f (vec M r) w cpos size 0)
    (same : (a : Assignment) → rule (scalars M) (get_or pos m 0) (drawn m pos off dif out) a ≡ f a)
    (is : (u : ℕ) → up M (r u) ≡ total (scalars M) (m + 1 - 0) (λ i. (scalars M).times (out (0 + i)) (Grid M code w 384 (0 + i) u))) where
  outlet : (u : ℕ) → up M (r u) ≡ comb (scalars M) (m + 1) out (Grid M code w 384) u
  outlet u = is u ∙ sym (from_on (scalars M) (m + 1) 0 out (Grid M code w 384) (omega arith) (λ t k. absurd (omega arith)) u)

  pub finished : Settles M code (get_or pos m 0) f w cpos size r
  finished = record {
    few = few;
    canonical = built_canonical (scalars M) (get_or pos m 0) f (drawn m pos off dif out) (celled M code w cpos size (vec M r)) (get_or pos 0 0) backs.built (Grid M code w 384)
        (λ h l k x. backs.imaged h (omega arith) (omega arith) x) same (λ u l. outlet u);
    same = λ a.
        built_rule (scalars M) (get_or pos m 0) f (drawn m pos off dif out) (celled M code w cpos size (vec M r)) (get_or pos 0 0) backs.built (Grid M code w 384)
        (λ h l k x. backs.imaged h (omega arith) (omega arith) x) same (λ u l. outlet u) a ∙ same a;
    rows_end = cellular.can;
    outlet_ends = λ p l.
        up_none M (r p) (hr p) (is p
        ∙ sum_zero (scalars M) (m + 1 - 0) _ (λ i k. ap ((scalars M).times (out (0 + i))) (up_is_zero M (cellular.img (0 + i) p (omega arith) (omega arith) l)) ∙ times_zero (scalars M) _));
  }
