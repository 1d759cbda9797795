-- The positions of the cells of two forms, listed one after the other.
use Rattle.std.proofs.Common.{◌≡◌, ℕ, ◌+◌, ◌<◌, ◌≤◌, List, ◌++◌, length, get_or, take, map, sym, ap, ◌∙◌, ap₂, arith, length-append}
use Rattle.std.proofs.Math.Seq.{take-append-add}
use Rattle.std.proofs.lemmas.List.{ext_get_or, get_or-map, get_or-take, get_or_append_left, get_or-append-add, length-map, length-take, map-append, take_all}
use Rattle.patch.specs.Faults.{position}
use Rattle.drafting.specs.Arcs.{Positions}

module _ (order : List ℕ) where
  listed_one : (inputs ps : List ℕ) → length inputs ≤ length ps → Positions order inputs ps → take (length inputs) ps ≡ map (position order) inputs
  listed_one inputs ps long at =
      ext_get_or 0 _ _ (omega (arith, length-take (length inputs) ps, length-map inputs (position order))) (λ i l.
      let low : i < length inputs = omega (arith, length-take (length inputs) ps) in
      get_or-take (length inputs) ps i 0 low ∙ at i low ∙ sym (get_or-map (position order) inputs i 0 0 low))

  module _ (first second : List ℕ) where
    pub listed_both : (ps qs : List ℕ) → length ps ≡ length first → length second ≤ length qs → Positions order first ps → Positions order second qs
        → take (length first + length second) (ps ++ qs) ≡ map (position order) (first ++ second)
    listed_both ps qs e long here there =
        ap (λ (k : ℕ). take (k + length second) (ps ++ qs)) (sym e) ∙ take-append-add ps qs (length second)
        ∙ ap₂ ◌++◌ (sym (take_all (length first) ps (omega arith)) ∙ listed_one first ps (omega arith) here) (listed_one second qs long there)
        ∙ sym (map-append (position order) first second)

    both_at : (i : ℕ) → i < length first + length second → get_or (map (position order) (first ++ second)) i 0 ≡ position order (get_or (first ++ second) i 0)
    both_at i l = get_or-map (position order) (first ++ second) i 0 0 (omega (arith, length-append first second))

    pub first_at : (j : ℕ) → j < length first → get_or (map (position order) (first ++ second)) (0 + j) 0 ≡ position order (get_or first j 0)
    first_at j l =
        let e : 0 + j ≡ j = omega arith in
        both_at (0 + j) (omega arith) ∙ ap (λ (i : ℕ). position order (get_or (first ++ second) i 0)) e ∙ ap (position order) (get_or_append_left first second 0 j l)

    pub second_at : (j : ℕ) → j < length second → get_or (map (position order) (first ++ second)) (length first + j) 0 ≡ position order (get_or second j 0)
    second_at j l = both_at (length first + j) (omega arith) ∙ ap (position order) (get_or-append-add first second j 0)
