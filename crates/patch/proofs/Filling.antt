-- How far the tables of what is seen and of positions are filled from the list.
use Rattle.std.proofs.Common.{◌≡◌, ℕ, ◌+◌, ◌<◌, ◌≤◌, ◌≢◌, ◌⊎◌, Bool, true, false, List, ◌++◌, length, get_or, take, drop, set, replicate, sym, refl, ap, ◌∙◌, inl, inr, ⊎_elim, arith, below_more}
use Rattle.std.proofs.lemmas.Bool.{cases_eq, true≢false}
use Rattle.std.proofs.lemmas.List.{get_or-replicate, get_or-set_same, get_or-set_other, length-set, length-append, length-drop, get_or-take}
use Rattle.patch.specs.Undoes.{Undoes, EachOnce}
use Rattle.patch.proofs.Pigeons.{pigeons}

-- an input of the first k places is seen, and one that is seen stands there, at its position
pub record Filled (list : List ℕ) (k : ℕ) (seen : List Bool) (pos : List ℕ) : Type 0 where
  pub within : (j : ℕ) → j < k → get_or list j 0 < length list
  pub marked : (j : ℕ) → j < k → get_or seen (get_or list j 0) false ≡ true
  pub placed : (j : ℕ) → j < k → get_or pos (get_or list j 0) 0 ≡ j
  pub open' : (v : ℕ) → v < 24 → (get_or seen v false ≡ false) ⊎ ((get_or pos v 0 < k) × (get_or list (get_or pos v 0) 0 ≡ v))
  pub seen_long : length seen ≡ 24
  pub pos_long : length pos ≡ 24

pub filled_none : (list pos : List ℕ) → length pos ≡ 24 → Filled list 0 (replicate 24 false) pos
filled_none list pos l =
    record {
      within = λ j h. absurd (omega arith);
      marked = λ j h. absurd (omega arith);
      placed = λ j h. absurd (omega arith);
      open' = λ v h. inl (get_or-replicate 24 v false false h);
      seen_long = refl;
      pos_long = l;
    }

module _ (list : List ℕ) (k : ℕ) (seen : List Bool) (pos : List ℕ) (f : Filled list k seen pos) (few : length list ≤ 24) (here : k < length list) where
  pub filled_more : get_or list k 0 < length list → get_or seen (get_or list k 0) false ≡ false
      → Filled list (k + 1) (set seen (get_or list k 0) true) (set pos (get_or list k 0) k)
  filled_more low free =
      record {
        within = below_more _ _ f.within low;
        marked =
            below_more _ _
            (λ j l. get_or-set_other seen (get_or list k 0) (get_or list j 0) true false (clash j l) ∙ f.marked j l)
            (get_or-set_same seen (get_or list k 0) true false (omega (arith, f.seen_long)));
        placed =
            below_more _ _
            (λ j l. get_or-set_other pos (get_or list k 0) (get_or list j 0) k 0 (clash j l) ∙ f.placed j l)
            (get_or-set_same pos (get_or list k 0) k 0 (omega (arith, f.pos_long)));
        open' = λ v l. ⊎_elim (taken v l) (other v l) (cases_eq v (get_or list k 0));
        seen_long = length-set seen (get_or list k 0) true ∙ f.seen_long;
        pos_long = length-set pos (get_or list k 0) k ∙ f.pos_long;
      }
    where
      clash : (j : ℕ) → j < k → get_or list j 0 ≢ get_or list k 0
      clash j l p = true≢false (sym (f.marked j l) ∙ (ap (λ m. get_or seen m false) p ∙ free))

      Now : ℕ → Type 0
      Now v =
          (get_or (set seen (get_or list k 0) true) v false ≡ false) ⊎
          ((get_or (set pos (get_or list k 0) k) v 0 < k + 1) × (get_or list (get_or (set pos (get_or list k 0) k) v 0) 0 ≡ v))

      taken : (v : ℕ) → v < 24 → v ≡ get_or list k 0 → Now v
      taken v l p =
          let e : get_or (set pos (get_or list k 0) k) v 0 ≡ k = ap (λ m. get_or (set pos (get_or list k 0) k) m 0) p ∙ get_or-set_same pos (get_or list k 0) k 0 (omega (arith, f.pos_long)) in
          inr (omega arith, ap (λ m. get_or list m 0) e ∙ sym p)

      other : (v : ℕ) → v < 24 → (v ≡ get_or list k 0 → ⊥) → Now v
      other v l ne =
          let e : get_or (set pos (get_or list k 0) k) v 0 ≡ get_or pos v 0 = get_or-set_other pos (get_or list k 0) v k 0 ne in
          ⊎_elim
          (λ p. inl (get_or-set_other seen (get_or list k 0) v true false ne ∙ p))
          (λ p. inr (omega (arith, p.0), ap (λ m. get_or list m 0) e ∙ p.1))
          (f.open' v l)

  -- the list is not one that has each once: an input that was seen
  pub not_twice : get_or list k 0 < length list → get_or seen (get_or list k 0) false ≡ true → EachOnce list → ⊥
  not_twice low used once =
      ⊎_elim
      (λ free. true≢false (sym used ∙ free))
      (λ p. let e : get_or pos (get_or list k 0) 0 ≡ k = once.1 _ k (omega (arith, p.0)) here p.1 in omega (arith, p.0))
      (f.open' (get_or list k 0) (omega arith))

-- and so with an input past the end
pub not_high : (list : List ℕ) (k : ℕ) → k < length list → length list ≤ get_or list k 0 → EachOnce list → ⊥
not_high list k here high once = omega (arith, once.0 k here)

-- the list put in front of a table
pub front_long : (list table : List ℕ) → length table ≡ 24 → length list ≤ 24 → length (list ++ drop (length list) table) ≡ 24
front_long list table l few = omega (arith, length-append list (drop (length list) table), length-drop (length list) table)

-- the inputs of the whole list are within its length, and each has its place for its position
module _ (list pos : List ℕ) (within : (j : ℕ) → j < length list → get_or list j 0 < length list) (placed : (j : ℕ) → j < length list → get_or pos (get_or list j 0) 0 ≡ j) where
  pub once : EachOnce list
  once = (within, λ i j h l e. sym (placed i h) ∙ (ap (λ m. get_or pos m 0) e ∙ placed j l))

  module _ (ins : List ℕ) (front : take (length list) ins ≡ list) where
    pub copied : (j : ℕ) → j < length list → get_or ins j 0 ≡ get_or list j 0
    copied j h = sym (get_or-take (length list) ins j 0 h) ∙ ap (λ xs. get_or xs j 0) front

    pub there : Undoes (length list) ins pos
    there j h = let e = copied j h in (omega (arith, within j h), ap (λ m. get_or pos m 0) e ∙ placed j h)

    pub back : Undoes (length list) pos ins
    back v h =
        let m = pigeons (length list) (λ j. get_or list j 0) once.0 once.1 v h in
        let e : get_or pos v 0 ≡ m.0 = ap (λ w. get_or pos w 0) (sym m.2) ∙ placed m.0 m.1 in
        (omega (arith, m.1), ap (λ w. get_or ins w 0) e ∙ (copied m.0 m.1 ∙ m.2))
