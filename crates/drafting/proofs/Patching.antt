-- A draft whose cells stand where a plan of their positions says, and whose rows hold what the records of a patch bring, means that patch.
use Rattle.std.proofs.Common.{◌≡◌, ℕ, suc, ◌+◌, ◌-◌, ◌<◌, ◌≤◌, cond, ◌||◌, List, [], length, get_or, sym, ap, ◌∙◌, subst, ap₂, inl, inr, arith}
use Rattle.std.proofs.lemmas.Bool.{cases_eq, cond-false, ne_eqb, le-ltb}
use Rattle.linear.specs.Codes.{as_code}
use Rattle.linear.proofs.Codes.{coded_any}
use Rattle.diagram.specs.Calls.{Placed as Stands}
use Rattle.diagram.specs.Diagram.{Assignment, Diagram, Formed, rule}
use Rattle.diagram.specs.Passes.{along, Embeds}
use Rattle.diagram.specs.Patches.{patch_diagram}
use Rattle.diagram.proofs.Patched.{patch_formed}
use Rattle.diagram.proofs.Tying.{moved_formed, moved_rule}
use Rattle.elimination.specs.Lift.{Element, scalars, up}
use Rattle.patch.specs.Faults.{position, Patch}
use Rattle.patch.specs.Orders.{listed}
use Rattle.patch.specs.Records.{records, declared, cells_of}
use Rattle.patch.specs.declared.order.ScanOrder.{ScanOrder}
use Rattle.patch.proofs.Facts.{Facts, facts}
use Rattle.patch.proofs.Orders.{lawful}
use Rattle.patch.proofs.Pigeons.{pigeons}
use Rattle.scale.specs.Model.{ScaleModel}
use Rattle.settling.specs.declared.draft.Draft.{Draft}
use Rattle.settling.specs.Settling.{diagram_of}
use Rattle.strip.specs.Row.{Row}
use Rattle.drafting.specs.Arcs.{Positions, spot, Summed}
use Rattle.drafting.specs.Meaning.{reading, patch_rule, Drafts}
use Rattle.drafting.specs.Plan.{Placed}
use Rattle.drafting.proofs.Moving.{along_same}
use Rattle.drafting.proofs.Summing.{sum_off, sum_dif, sum_out}

pub spot_cell : (m : ℕ) (place : List ℕ) (f : ℕ) → 0 < f → f ≤ 128 → spot m place f ≡ get_or place (f - 1) 0
spot_cell m place f z l =
    ap₂ (λ a b. cond (a || b) m (get_or place (f - 1) 0)) (ne_eqb f 0 (λ e. omega arith)) (le-ltb 128 f l)

module _ (M : ScaleModel) (s : ScanOrder) (bytes : List ℕ) (P : Patch (listed s) M.q bytes) where
  abbrev C : ℕ
  C = cells_of (records bytes)

  abbrev n : ℕ
  n = length (listed s)

  abbrev E : Diagram (Element M)
  E = patch_diagram (reading M s) bytes

  A : Facts (listed s) M.q (records bytes)
  A = facts (listed s) M.q bytes (lawful s) P

  code_is : (x : ℕ) → up M x ≡ as_code M.field x
  unfolding up
  code_is x = coded_any _ _ x

  formed : Formed (scalars M) n E
  unfolding scalars
  formed = patch_formed (reading M s) bytes P

  module _ (ps : List ℕ) (m : ℕ) (pos place : List ℕ) (read : Positions (listed s) (declared [] (records bytes)) ps) (plan : Placed ps C n m pos place) (few : C < 128) where
    abbrev ρ : ℕ → ℕ
    ρ = spot m place

    below : (i : ℕ) → i < C → get_or ps i 0 < n
    below i h =
        let e : i + 1 - 1 ≡ i = omega arith in
        let l = A.place_is (i + 1) (omega arith) (omega arith) in
        rw (read i h) (subst (λ (j : ℕ). position (listed s) (get_or (declared [] (records bytes)) j 0) < n) e l)

    pub count : m ≡ C
    count = plan.all below

    cell_spot : (f : ℕ) → 0 < f → f ≤ C → ρ f ≡ get_or place (f - 1) 0
    cell_spot f z h = spot_cell m place f z (omega arith)

    cell_inside : (f : ℕ) → 0 < f → f ≤ C → ρ f < m
    cell_inside f z h = rw (cell_spot f z h) (plan.inside (f - 1) (omega arith) (below (f - 1) (omega arith)))

    inside : (f : ℕ) → f ≤ C → ρ f ≤ m
    inside f h = elim (cases_eq f 0) [
      | inl e ↦ (let z : ρ f ≡ m = ap ρ e in omega arith)
      | inr ne ↦ (let l = cell_inside f (omega arith) h in omega arith)
    ]

    apart : (f g : ℕ) → f ≤ C → g ≤ C → ρ f ≡ ρ g → f ≡ g
    apart f g h k e = elim (cases_eq f 0) [
      | inl x ↦ elim (cases_eq g 0) [
        | inl y ↦ x ∙ sym y
        | inr y ↦ (let z : ρ f ≡ m = ap ρ x in absurd (omega (arith, cell_inside g (omega arith) k)))
      ]
      | inr x ↦ elim (cases_eq g 0) [
        | inl y ↦ (let z : ρ g ≡ m = ap ρ y in absurd (omega (arith, cell_inside f (omega arith) h)))
        | inr y ↦ (
            let same : f - 1 ≡ g - 1 =
            plan.apart (f - 1) (g - 1) (omega arith) (omega arith) (below (f - 1) (omega arith)) (below (g - 1) (omega arith)) (
            sym (cell_spot f (omega arith) h) ∙ e ∙ cell_spot g (omega arith) k) in
            omega arith
            )
      ]
    ]

    reads_pos : (f : ℕ) → f ≤ C → get_or pos (ρ f) 0 ≡ E.pos f
    reads_pos f h = elim (cases_eq f 0) [
      | inl e ↦ ap (λ (g : ℕ). get_or pos (ρ g) 0) e ∙ plan.steady ∙ sym (ap E.pos e)
      | inr ne ↦ ap (λ (t : ℕ). get_or pos t 0) (cell_spot f (omega arith) h) ∙ plan.at (f - 1) (omega arith) (below (f - 1) (omega arith)) ∙ read (f - 1) (omega arith)
          ∙ sym (cond-false _ _ _ (ne_eqb f 0 ne))
    ]

    stands : (t : ℕ) → t ≤ m → Stands E ρ t
    stands t l = elim (cases_eq t m) [
      | inl e ↦ (0, omega arith, sym e)
      | inr ne ↦ (
          let found =
          pigeons m (λ (i : ℕ). get_or place i 0) (λ i h. plan.inside i (omega (arith, count)) (below i (omega (arith, count)))) (
          λ i j h k e. plan.apart i j (omega (arith, count)) (omega (arith, count)) (below i (omega (arith, count))) (below j (omega (arith, count))) e) t (omega arith) in
          let i : ℕ = found.0 in
          let low : i < m = found.1 in
          let back : i + 1 - 1 ≡ i = omega arith in
          (i + 1, omega (arith, count), cell_spot (i + 1) (omega arith) (omega (arith, count)) ∙ ap (λ (j : ℕ). get_or place j 0) back ∙ found.2)
          )
    ]

  module _ {S : Type 0} (code : S → Row) (w : List S) (d : Draft S) (ps place : List ℕ) (read : Positions (listed s) (declared [] (records bytes)) ps) (plan : Placed ps C n d.places.cells d.places.pos place) (few : C < 128)
      (sums : Summed M code (spot d.places.cells place) (records bytes) (length (records bytes)) d.places.cells w (code d.out)) where
    abbrev σ : ℕ → ℕ
    σ = spot d.places.cells place

    embeds : Embeds (scalars M) E (diagram_of M code w d) σ
    embeds = record {
      inside = λ t h. omega (arith, inside ps d.places.cells d.places.pos place read plan few t (omega arith));
      pos = λ t h. reads_pos ps d.places.cells d.places.pos place read plan few t (omega arith);
      off = λ t u h k.
          sums.off (σ t) u (inside ps d.places.cells d.places.pos place read plan few t (omega arith))
          ∙ sum_off M (listed s) (declared [] (records bytes)) (records bytes) A.fine σ (apart ps d.places.cells d.places.pos place read plan few) t u (omega arith)
          ∙ along_same (scalars M) σ (suc C) _ _ (λ v l. code_is _) u;
      dif = λ t u h k.
          sums.dif (σ t) u (inside ps d.places.cells d.places.pos place read plan few t (omega arith))
          ∙ sum_dif M (listed s) (declared [] (records bytes)) (records bytes) A.fine σ (apart ps d.places.cells d.places.pos place read plan few) t u (omega arith)
          ∙ along_same (scalars M) σ (suc C) _ _ (λ v l. code_is _) u;
    }

    outlet : (u : ℕ) → up M (code d.out u) ≡ along (scalars M) (suc C) σ E.out u
    outlet u =
        sums.out u ∙ sum_out M (listed s) (declared [] (records bytes)) (records bytes) A.fine σ (apart ps d.places.cells d.places.pos place read plan few) u
        ∙ along_same (scalars M) σ (suc C) _ _ (λ v l. code_is _) u

    draft_formed : Formed (scalars M) n (diagram_of M code w d)
    draft_formed = moved_formed (scalars M) n E (diagram_of M code w d) σ formed embeds (λ t h. stands ps d.places.cells d.places.pos place read plan few t (omega arith))

    same_rule : (a : Assignment) → rule (scalars M) n (diagram_of M code w d) a ≡ patch_rule M s bytes a
    unfolding scalars
    same_rule a = moved_rule (scalars M) n E (diagram_of M code w d) σ formed draft_formed embeds (λ u h. outlet u) a

    pub drafts_patch : Drafts M code w d n (patch_rule M s bytes)
    drafts_patch = record {
      over = plan.steady;
      formed = subst (λ (k : ℕ). Formed (scalars M) k (diagram_of M code w d)) (sym plan.steady) draft_formed;
      same = λ a. ap (λ (k : ℕ). rule (scalars M) k (diagram_of M code w d) a) plan.steady ∙ same_rule a;
    }
