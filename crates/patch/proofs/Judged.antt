-- What the judgement on a record says of the record and its fault. Assumes nothing.
use Rattle.std.proofs.Common.{◌≡◌, ℕ, zero, suc, ◌+◌, ◌-◌, ◌<◌, ◌≤◌, Bool, true, false, cond, not, ◌&&◌, ◌||◌, eqb, ltb, leb, ◌≢◌, ◌⊎◌, List, [], ◌∷◌, ◌++◌, length, get_or, set, Ok, Err, Result, Fits, w8, sym, refl, ap, ◌∙◌, inl, inr, arith}
use Rattle.std.proofs.lemmas.Bool.{cond-true, cond-false, or_parts, ltb-false, eqb-false, lt-ltb, le-ltb, eq-eqb, ne_eqb, cases_eq, cases_lt}
use Rattle.std.proofs.lemmas.List.{length_push, get_or_push, get_or_append_left, get_or-set_same, get_or-set_other, length-set}
use Rattle.patch.specs.declared.cells.Cells.{Cells}
use Rattle.patch.specs.declared.record.Record.{Record as Entry}
use Rattle.patch.specs.declared.record.Record.TheVariants.{Filler, Cell, Off, On, Outlet}
use Rattle.patch.specs.declared.refusal.Refusal.{Refusal}
use Rattle.patch.specs.declared.refusal.Refusal.TheVariants.{UnknownMark, NotZero, CellInput, CellLimit, UnknownCell, NotLater, ArcCode}
use Rattle.patch.specs.Records.{Record, filler, cell, off, on, outlet, unmarked, unclean, read, input}
use Rattle.patch.specs.Faults.{position, later, arc_fault, fault}
use Rattle.patch.specs.Refusals.{number, place}
use Rattle.patch.specs.Judging.{meant, Holds, Says, fine, faulty, four, Judges, told}

-- the judgement on four bytes at a place, when `count` cells stand before them and cell f reads `reads f`
abbrev pub judged_four : List ℕ → ℕ → ℕ → ℕ → (ℕ → ℕ) → ℕ → ℕ → ℕ → ℕ → ℕ → Result Entry Refusal
judged_four order L q count reads place m a b c =
    cond (ltb 4 m) (Err (UnknownMark place)) (
    cond (eqb m 0) (cond (eqb a 0 && eqb b 0 && eqb c 0) (Ok Filler) (Err (NotZero place))) (
    cond (eqb m 1) (
    cond (eqb b 0 && eqb c 0) (cond (leb (length order) a) (Err (CellInput place)) (cond (leb L (count + 1)) (Err (CellLimit place)) (Ok (Cell a)))) (Err (NotZero place))) (
    cond (eqb m 4) (
    cond (eqb a 0) (cond (ltb count b) (Err (UnknownCell place)) (cond (leb q c) (Err (ArcCode place)) (Ok (Outlet b c)))) (Err (NotZero place))) (
    cond (eqb a 0 || ltb count a || ltb count b) (Err (UnknownCell place)) (
    cond (not (eqb b 0 || ltb (position order (reads a)) (position order (reads b)))) (Err (NotLater place)) (
    cond (leb q c) (Err (ArcCode place)) (cond (eqb m 2) (Ok (Off a b c)) (Ok (On a b c)))))))))

pub holds_none : (s : Cells) → s.count ≡ 0 → length s.inputs ≡ 256 → Holds s []
holds_none s e l = record { counts = e; keeps = λ f p h. absurd (omega arith); long = l }

module _ (s after : Cells) (cells : List ℕ) (i : ℕ) (h : Holds s cells) (more : after.count ≡ s.count + 1)
    (put : after.inputs ≡ cond (ltb (s.count + 1) 256) (set s.inputs (s.count + 1) i) s.inputs) where
  room : s.count + 1 < 256 → after.inputs ≡ set s.inputs (s.count + 1) i
  room l = put ∙ cond-true _ _ _ (lt-ltb _ _ l)

  full : 256 ≤ s.count + 1 → after.inputs ≡ s.inputs
  full l = put ∙ cond-false _ _ _ (le-ltb _ _ l)

  last : s.count + 1 < 256 → get_or after.inputs (s.count + 1) 0 ≡ i
  last l = ap (λ xs. get_or xs (s.count + 1) 0) (room l) ∙ get_or-set_same s.inputs (s.count + 1) i 0 (omega (arith, h.long))

  before : (f : ℕ) → f ≤ length cells → get_or after.inputs f 0 ≡ get_or s.inputs f 0
  before f l =
      let ne : f ≢ s.count + 1 = λ e. omega (arith, h.counts) in
      elim (cases_lt (s.count + 1) 256) [
        | inl a ↦ ap (λ xs. get_or xs f 0) (room a) ∙ get_or-set_other s.inputs (s.count + 1) f i 0 ne
        | inr a ↦ ap (λ xs. get_or xs f 0) (full a)
      ]

  -- cell f of the longer list
  kept : (f : ℕ) → 0 < f → f ≤ length cells + 1 → f < 256 → (f ≡ length cells + 1) ⊎ (f ≡ length cells + 1 → ⊥) → get_or after.inputs f 0 ≡ input (cells ++ i ∷ []) f
  kept f p l b (inl e) =
      let here : f ≡ s.count + 1 = omega (arith, h.counts) in
      let end : length cells ≡ f - 1 = omega arith in
      ap (λ m. get_or after.inputs m 0) here ∙ last (omega arith) ∙ sym (get_or_push cells i 0 (f - 1) end)
  kept f p l b (inr ne) =
      let l' : f ≤ length cells = omega arith in before f l' ∙ h.keeps f p l' b ∙ sym (get_or_append_left cells (i ∷ []) 0 (f - 1) (omega arith))

  long_after : length after.inputs ≡ 256
  long_after = elim (cases_lt (s.count + 1) 256) [
    | inl a ↦ ap length (room a) ∙ length-set s.inputs (s.count + 1) i ∙ h.long
    | inr a ↦ ap length (full a) ∙ h.long
  ]

  pub holds_more : Holds after (cells ++ i ∷ [])
  holds_more = record {
    counts = omega (arith, h.counts, length_push cells i);
    keeps = λ f p l b. kept f p (omega (arith, length_push cells i)) b (cases_eq f (length cells + 1));
    long = long_after;
  }

pub says_fine : {r : Record} {k x : ℕ} {j : Result Entry Refusal} (e : Entry) → Says r k j x → j ≡ Ok e → (meant e ≡ r) × (x ≡ 0)
says_fine e (fine d h) p = let same : e ≡ d = cc in (ap meant same ∙ h, refl)
says_fine e (faulty d h n) p = let z : ◌≡◌ {A = ℕ} 0 1 = cc in absurd (omega arith)

pub says_faulty : {r : Record} {k x : ℕ} {j : Result Entry Refusal} (e : Refusal) → Says r k j x → j ≡ Err e → (x ≡ number e) × (place e ≡ k) × (x ≢ 0)
says_faulty e (fine d h) p = let z : ◌≡◌ {A = ℕ} 0 1 = cc in absurd (omega arith)
says_faulty e (faulty d h n) p = let same : d ≡ e = cc in (ap number same, ap place (sym same) ∙ h, n)

pick : {r : Record} {k : ℕ} (b : Bool) {i j : Result Entry Refusal} {x y : ℕ} → Says r k i x → (b ≡ false → Says r k j y) → Says r k (cond b i j) (cond b x y)
pick true s t = s
pick false s t = t refl

module _ (order : List ℕ) (L q : ℕ) (cells : List ℕ) (k : ℕ) where
  both : (b : Bool) (r t : Record) {i j : Result Entry Refusal} → Says r k i (fault order L q cells r) → Says t k j (fault order L q cells t)
      → Says (cond b r t) k (cond b i j) (fault order L q cells (cond b r t))
  both true r t x y = x
  both false r t x y = y

  unmarked_four : (m a b c : ℕ) → 4 < m → read m a b c ≡ unmarked
  unmarked_four m a b c h =
      cond-false _ _ _ (ne_eqb m 0 (λ e. omega arith)) ∙ cond-false _ _ _ (ne_eqb m 1 (λ e. omega arith)) ∙ cond-false _ _ _ (ne_eqb m 2 (λ e. omega arith))
      ∙ cond-false _ _ _ (ne_eqb m 3 (λ e. omega arith)) ∙ cond-false _ _ _ (ne_eqb m 4 (λ e. omega arith))

  module _ (s : Cells) (h : Holds s cells) where
    abbrev reads : ℕ → ℕ
    reads f = get_or s.inputs f 0

    later_same : (a b : ℕ) → 0 < a → a ≤ length cells → a < 256 → b ≤ length cells → b < 256
        → (eqb b 0 || ltb (position order (reads a)) (position order (reads b))) ≡ later order cells a b
    later_same a zero p l u l' u' = refl
    later_same a (suc b) p l u l' u' = rw (h.keeps a p l u, h.keeps (suc b) (omega arith) l' u') refl

    cell_says : (a : ℕ) → Says (cell a) k (cond (leb (length order) a) (Err (CellInput k)) (cond (leb L (s.count + 1)) (Err (CellLimit k)) (Ok (Cell a)))) (fault order L q cells (cell a))
    cell_says a =
        rw h.counts (pick (leb (length order) a) (faulty (CellInput k) refl (λ z. omega arith)) (
        λ _. pick (leb L (length cells + 1)) (faulty (CellLimit k) refl (λ z. omega arith)) (λ _. fine (Cell a) refl)))

    outlet_says : (b c : ℕ) → Says (outlet b c) k (cond (ltb s.count b) (Err (UnknownCell k)) (cond (leb q c) (Err (ArcCode k)) (Ok (Outlet b c)))) (fault order L q cells (outlet b c))
    outlet_says b c =
        rw h.counts (pick (ltb (length cells) b) (faulty (UnknownCell k) refl (λ z. omega arith)) (λ _. pick (leb q c) (faulty (ArcCode k) refl (λ z. omega arith)) (λ _. fine (Outlet b c) refl)))

    arc_says : (r : Record) (e : Entry) → meant e ≡ r → (a b c : ℕ) → a < 256 → b < 256
        → Says r k (
        cond (eqb a 0 || ltb s.count a || ltb s.count b) (Err (UnknownCell k)) (
        cond (not (eqb b 0 || ltb (position order (reads a)) (position order (reads b)))) (Err (NotLater k)) (cond (leb q c) (Err (ArcCode k)) (Ok e)))) (
        arc_fault order q cells a b c)
    arc_says r e is a b c u v =
        rw h.counts (pick (eqb a 0 || ltb (length cells) a || ltb (length cells) b) (faulty (UnknownCell k) refl (λ z. omega arith)) (
        λ o.
        let p = or_parts (eqb a 0 || ltb (length cells) a) (ltb (length cells) b) o in
        let p2 = or_parts (eqb a 0) (ltb (length cells) a) p.0 in
        let some : 0 < a = omega (arith, eqb-false a 0 p2.0) in
        rw (later_same a b some (ltb-false _ _ p2.1) u (ltb-false _ _ p.1) v) (
        pick (not (later order cells a b)) (faulty (NotLater k) refl (λ z. omega arith)) (λ _. pick (leb q c) (faulty (ArcCode k) refl (λ z. omega arith)) (λ _. fine e is)))))

    four_says : (m a b c : ℕ) → a < 256 → b < 256 → Says (read m a b c) k (judged_four order L q s.count reads k m a b c) (fault order L q cells (read m a b c))
    four_says zero a b c u v = both (eqb a 0 && eqb b 0 && eqb c 0) filler unclean (fine Filler refl) (faulty (NotZero k) refl (λ z. omega arith))
    four_says (suc zero) a b c u v = both (eqb b 0 && eqb c 0) (cell a) unclean (cell_says a) (faulty (NotZero k) refl (λ z. omega arith))
    four_says (suc (suc zero)) a b c u v = arc_says (off a b c) (Off a b c) refl a b c u v
    four_says (suc (suc (suc zero))) a b c u v = arc_says (on a b c) (On a b c) refl a b c u v
    four_says (suc (suc (suc (suc zero)))) a b c u v = both (eqb a 0) (outlet b c) unclean (outlet_says b c) (faulty (NotZero k) refl (λ z. omega arith))
    four_says (suc (suc (suc (suc (suc n))))) a b c u v =
        rw (unmarked_four (suc (suc (suc (suc (suc n))))) a b c (omega arith), lt-ltb 4 (suc (suc (suc (suc (suc n))))) (omega arith)) (faulty (UnknownMark k) refl (λ z. omega arith))

pub judged_tells : {order : List ℕ} {L q : ℕ} {s : Cells} {k : ℕ} {xs : List ℕ} {r : Result Entry Refusal} → ((i : ℕ) → Fits w8 (get_or xs i 0))
    → r ≡ judged_four order L q s.count (λ f. get_or s.inputs f 0) k (get_or xs 0 0) (get_or xs 1 0) (get_or xs 2 0) (get_or xs 3 0) → Judges order L q s k xs r
judged_tells {order} {L} {q} {s} {k} {xs} typed e = record {
  says = λ cells h. rw e (four_says order L q cells k s h (get_or xs 0 0) (get_or xs 1 0) (get_or xs 2 0) (get_or xs 3 0) (omega (arith, typed 1)) (omega (arith, typed 2)));
}

-- what four bytes say that are a record
clean : (b : Bool) (r : Record) → cond b r unclean ≢ unclean → r ≡ cond b r unclean
clean true r n = refl
clean false r n = absurd (n refl)

told_four : (m a b c : ℕ) → read m a b c ≢ unmarked → read m a b c ≢ unclean
    → meant (cond (eqb m 1) (Cell a) (cond (eqb m 2) (Off a b c) (cond (eqb m 3) (On a b c) (cond (eqb m 4) (Outlet b c) Filler)))) ≡ read m a b c
told_four zero a b c u n = clean (eqb a 0 && eqb b 0 && eqb c 0) filler n
told_four (suc zero) a b c u n = clean (eqb b 0 && eqb c 0) (cell a) n
told_four (suc (suc zero)) a b c u n = refl
told_four (suc (suc (suc zero))) a b c u n = refl
told_four (suc (suc (suc (suc zero)))) a b c u n = clean (eqb a 0) (outlet b c) n
told_four (suc (suc (suc (suc (suc m))))) a b c u n = absurd (u (unmarked_four [] 0 0 [] 0 (suc (suc (suc (suc (suc m))))) a b c (omega arith)))

pub told_is : (xs : List ℕ) → length xs ≡ 4 → four xs ≢ unmarked → four xs ≢ unclean → meant (told xs) ≡ four xs
told_is xs l u n = ap meant (cond-true _ _ _ (eq-eqb _ 4 l)) ∙ told_four (get_or xs 0 0) (get_or xs 1 0) (get_or xs 2 0) (get_or xs 3 0) u n
