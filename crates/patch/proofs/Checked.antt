-- The check of a patch finds the first faulty record, or none. Assumes nothing.
use Rattle.std.proofs.Common.{◌≡◌, ℕ, zero, suc, ◌+◌, ◌*◌, ◌/◌, ◌%◌, ◌<◌, ◌≤◌, Bool, true, false, cond, not, ◌||◌, eqb, ltb, leb, ◌≢◌, ◌↔◌, List, [], ◌∷◌, length, get_or, take, sym, refl, ap, ◌∙◌, inl, inr, add-zero, arith, length-append}
use Rattle.std.proofs.lemmas.Bool.{cond-true, cond-false, or_parts, or_from, or_cases, or_left, or_right, ltb-true, ltb-false, leb-false, eqb-true, eqb-false, lt-ltb, le-ltb, lt-leb, eq-eqb, ne_eqb, not-false, not_from_true}
use Rattle.patch.specs.Records.{Record, filler, cell, off, on, outlet, unmarked, unclean, read, records, declare, declared, nth, cells_of}
use Rattle.patch.specs.Faults.{later, arc_fault, fault, passed, refused, check_from, check_patch, Bytes, Later, Arc, Fine, AllFine, Patch, First}

-- a fault that did not occur
fell : (b : Bool) (k y : ℕ) → cond b (suc k) y ≡ 0 → (b ≡ false) × (y ≡ 0)
fell true k y e = absurd (omega arith)
fell false k y e = (refl, e)

module _ (order : List ℕ) (q : ℕ) where
  later_is : (cells : List ℕ) (f t : ℕ) → later order cells f t ≡ true → Later order cells f t
  later_is cells f t e = elim (or_cases (eqb t 0) _ e) [ inl z ↦ inl (eqb-true t 0 z) | inr l ↦ inr (ltb-true _ _ l) ]

  is_later : (cells : List ℕ) (f t : ℕ) → Later order cells f t → later order cells f t ≡ true
  is_later cells f t (inl z) = or_left (eqb t 0) _ (eq-eqb t 0 z)
  is_later cells f t (inr l) = or_right (eqb t 0) _ (lt-ltb _ _ l)

  arc_fine : (cells : List ℕ) (f t c : ℕ) → arc_fault order q cells f t c ≡ 0 → Arc order q cells f t c
  arc_fine cells f t c e =
      let a = fell (eqb f 0 || ltb (length cells) f || ltb (length cells) t) 15 _ e in
      let b = fell (not (later order cells f t)) 16 _ a.1 in
      let d = fell (leb q c) 17 0 b.1 in
      let o = or_parts (eqb f 0 || ltb (length cells) f) (ltb (length cells) t) a.0 in
      let o2 = or_parts (eqb f 0) (ltb (length cells) f) o.0 in record {
        from_cell = omega (arith, eqb-false f 0 o2.0);
        from_known = ltb-false _ _ o2.1;
        to_known = ltb-false _ _ o.1;
        leads_later = later_is cells f t (not-false _ b.0);
        code = leb-false _ _ d.0;
      }

  fine_arc : (cells : List ℕ) (f t c : ℕ) → Arc order q cells f t c → arc_fault order q cells f t c ≡ 0
  fine_arc cells f t c a =
      cond-false _ _ _ (or_from _ _ (or_from _ _ (ne_eqb f 0 (λ z. omega (arith, a.from_cell))) (le-ltb _ _ a.from_known)) (le-ltb _ _ a.to_known))
      ∙ cond-false _ _ _ (not_from_true _ (is_later cells f t a.leads_later)) ∙ cond-false _ _ _ (lt-leb _ _ a.code)

  module _ (L : ℕ) where
    fault_none : (cells : List ℕ) (r : Record) → fault order L q cells r ≡ 0 → Fine order q cells r × (length cells < L → length (declare cells r) < L)
    fault_none cells filler e = (tt, λ h. h)
    fault_none cells (cell i) e =
        let a = fell (leb (length order) i) 13 _ e in
        let b = fell (leb L (length cells + 1)) 14 0 a.1 in (leb-false _ _ a.0, λ h. simp length-append (leb-false _ _ b.0))
    fault_none cells (off f t c) e = (arc_fine cells f t c e, λ h. h)
    fault_none cells (on f t c) e = (arc_fine cells f t c e, λ h. h)
    fault_none cells (outlet t c) e =
        let a = fell (ltb (length cells) t) 15 _ e in
        let b = fell (leb q c) 17 0 a.1 in ((ltb-false _ _ a.0, leb-false _ _ b.0), λ h. h)
    fault_none cells unmarked e = absurd (omega arith)
    fault_none cells unclean e = absurd (omega arith)

    no_fault : (cells : List ℕ) (r : Record) → Fine order q cells r → length (declare cells r) < L → fault order L q cells r ≡ 0
    no_fault cells filler e h = refl
    no_fault cells (cell i) e h = cond-false _ _ _ (lt-leb _ _ e) ∙ cond-false _ _ _ (lt-leb _ _ (simp length-append at h))
    no_fault cells (off f t c) e h = fine_arc cells f t c e
    no_fault cells (on f t c) e h = fine_arc cells f t c e
    no_fault cells (outlet t c) e h = cond-false _ _ _ (le-ltb _ _ e.0) ∙ cond-false _ _ _ (lt-leb _ _ e.1)
    no_fault cells unmarked e h = absurd e
    no_fault cells unclean e h = absurd e

-- cells are never taken back
pub declare_more : (cells : List ℕ) (r : Record) → length cells ≤ length (declare cells r)
declare_more cells filler = omega arith
declare_more cells (cell i) = simp length-append (omega arith)
declare_more cells (off f t c) = omega arith
declare_more cells (on f t c) = omega arith
declare_more cells (outlet t c) = omega arith
declare_more cells unmarked = omega arith
declare_more cells unclean = omega arith

pub declared_more : (rs : List Record) (cells : List ℕ) → length cells ≤ length (declared cells rs)
declared_more [] cells = omega arith
declared_more (r ∷ rs) cells = omega (arith, declare_more cells r, declared_more rs (declare cells r))

no_refusal : {k j : ℕ} → passed ≡ refused k j → ⊥
no_refusal e = let z : ◌≡◌ {A = ℕ} 0 1 = cc in omega arith

pub no_sound : {k j : ℕ} → refused k j ≡ passed → ⊥
no_sound e = let z : ◌≡◌ {A = ℕ} 0 1 = cc in omega arith

module _ (order : List ℕ) (L q : ℕ) where
  pub sound_fine : (rs : List Record) (k : ℕ) (cells : List ℕ) → length cells < L → check_from order L q k cells rs ≡ passed
      → AllFine order q cells rs × (length (declared cells rs) < L)
  sound_fine [] k cells h e = (tt, h)
  sound_fine (r ∷ rs) k cells h e = go (eqb (fault order L q cells r) 0) refl e (sound_fine rs (k + 1) (declare cells r))
    where
      go : (b : Bool) → eqb (fault order L q cells r) 0 ≡ b
          → cond b (check_from order L q (k + 1) (declare cells r) rs) (refused (fault order L q cells r) k) ≡ passed
          → (length (declare cells r) < L → check_from order L q (k + 1) (declare cells r) rs ≡ passed → AllFine order q (declare cells r) rs × (length (declared (declare cells r) rs) < L))
          → AllFine order q cells (r ∷ rs) × (length (declared cells (r ∷ rs)) < L)
      go true t s ih =
          let f = fault_none order q L cells r (eqb-true _ 0 t) in
          let i = ih (f.1 h) s in ((f.0, i.0), i.1)
      go false t s ih = absurd (no_sound s)

  fine_sound : (rs : List Record) (k : ℕ) (cells : List ℕ) → AllFine order q cells rs → length (declared cells rs) < L → check_from order L q k cells rs ≡ passed
  fine_sound [] k cells a h = refl
  fine_sound (r ∷ rs) k cells a h =
      let l : length (declare cells r) < L = omega (arith, declared_more rs (declare cells r)) in
      cond-true _ _ _ (eq-eqb _ 0 (no_fault order q L cells r a.0 l)) ∙ fine_sound rs (k + 1) (declare cells r) a.1 h

  -- the same as First, some records on
  record FirstFrom (cells : List ℕ) (rs : List Record) (number j : ℕ) : Type 0 where
    inside : j < length rs
    is : fault order L q (declared cells (take j rs)) (nth rs j) ≡ number
    faulty : number ≢ 0
    before : (i : ℕ) → i < j → fault order L q (declared cells (take i rs)) (nth rs i) ≡ 0

  refused_first : (rs : List Record) (k : ℕ) (cells : List ℕ) (number place : ℕ) → check_from order L q k cells rs ≡ refused number place
      → (j : ℕ) × (place ≡ k + j) × FirstFrom cells rs number j
  refused_first [] k cells number place e = absurd (no_refusal e)
  refused_first (r ∷ rs) k cells number place e = go (eqb (fault order L q cells r) 0) refl e (refused_first rs (k + 1) (declare cells r) number place)
    where
      go : (b : Bool) → eqb (fault order L q cells r) 0 ≡ b
          → cond b (check_from order L q (k + 1) (declare cells r) rs) (refused (fault order L q cells r) k) ≡ refused number place
          → (check_from order L q (k + 1) (declare cells r) rs ≡ refused number place → (j : ℕ) × (place ≡ k + 1 + j) × FirstFrom (declare cells r) rs number j)
          → (j : ℕ) × (place ≡ k + j) × FirstFrom cells (r ∷ rs) number j
      go true t s ih =
          let i = ih s in (
            suc i.0,
            omega (arith, i.1),
            record {
              inside = omega (arith, i.2.inside);
              is = i.2.is;
              faulty = i.2.faulty;
              before = elim [ zero ↦ (λ h. eqb-true _ 0 t) | suc m ↦ (λ h. i.2.before m (omega arith)) ];
            },
          )
      go false t s ih =
          let n : fault order L q cells r ≡ number = cc in
          let p : k ≡ place = cc in (
            0,
            omega arith,
            record {
              inside = omega arith;
              is = n;
              faulty = λ z. eqb-false _ 0 t (n ∙ z);
              before = λ i h. absurd (omega arith);
            },
          )

  first_refused : (rs : List Record) (k : ℕ) (cells : List ℕ) (number j : ℕ) → FirstFrom cells rs number j → check_from order L q k cells rs ≡ refused number (k + j)
  first_refused [] k cells number j f = absurd (omega (arith, f.inside))
  first_refused (r ∷ rs) k cells number zero f =
      cond-false _ _ _ (ne_eqb _ 0 (λ z. f.faulty (sym f.is ∙ z))) ∙ rw add-zero (ap (λ x. refused x k) f.is)
  first_refused (r ∷ rs) k cells number (suc j) f =
      let there : k + suc j ≡ k + 1 + j = omega arith in
      cond-true _ _ _ (eq-eqb _ 0 (f.before 0 (omega arith)))
      ∙ first_refused rs (k + 1) (declare cells r) number j (record {
        inside = omega (arith, f.inside);
        is = f.is;
        faulty = f.faulty;
        before = λ i h. f.before (suc i) (omega arith);
      }) ∙ ap (refused number) (sym there)

  pub checks_sound : (bytes : List ℕ) → 0 < L → Bytes bytes → (check_patch order L q bytes ≡ passed) ↔ (Patch order q bytes × (cells_of (records bytes) < L))
  checks_sound bytes l held = (go (eqb (length bytes % 4) 0) refl, λ p. cond-true _ _ _ (eq-eqb _ 0 p.0.fours) ∙ fine_sound (records bytes) 0 [] p.0.fine p.1)
    where
      go : (b : Bool) → eqb (length bytes % 4) 0 ≡ b → cond b (check_from order L q 0 [] (records bytes)) (refused 11 0) ≡ passed
          → Patch order q bytes × (cells_of (records bytes) < L)
      go true t s = let a = sound_fine (records bytes) 0 [] l s in (record { held = held; fours = eqb-true _ 0 t; fine = a.0 }, a.1)
      go false t s = absurd (no_sound s)

  pub checks_length : (bytes : List ℕ) → length bytes % 4 ≢ 0 → check_patch order L q bytes ≡ refused 11 0
  checks_length bytes h = cond-false _ _ _ (ne_eqb _ 0 h)

  pub checks_refused : (bytes : List ℕ) (number k : ℕ) → length bytes % 4 ≡ 0
      → (check_patch order L q bytes ≡ refused number k) ↔ First order L q (records bytes) number k
  checks_refused bytes number k h = (there, back)
    where
      same : check_patch order L q bytes ≡ check_from order L q 0 [] (records bytes)
      same = cond-true _ _ _ (eq-eqb _ 0 h)

      there : check_patch order L q bytes ≡ refused number k → First order L q (records bytes) number k
      there e =
          let f = refused_first (records bytes) 0 [] number k (sym same ∙ e) in
          let p : k ≡ f.0 = omega (arith, f.1) in rw p (record { inside = f.2.inside; is = f.2.is; faulty = f.2.faulty; before = f.2.before })

      back : First order L q (records bytes) number k → check_patch order L q bytes ≡ refused number k
      back f =
          let z : 0 + k ≡ k = omega arith in
          same ∙ first_refused (records bytes) 0 [] number k (record { inside = f.inside; is = f.is; faulty = f.faulty; before = f.before }) ∙ ap (refused number) z

  passed_from : (rs : List Record) (k : ℕ) (cells : List ℕ) → ((j : ℕ) → j < length rs → fault order L q (declared cells (take j rs)) (nth rs j) ≡ 0)
      → check_from order L q k cells rs ≡ passed
  passed_from [] k cells e = refl
  passed_from (r ∷ rs) k cells e =
      cond-true _ _ _ (eq-eqb _ 0 (e 0 (omega arith))) ∙ passed_from rs (k + 1) (declare cells r) (λ j h. e (suc j) (omega arith))

  pub checks_passed : (bytes : List ℕ) → length bytes % 4 ≡ 0
      → ((k : ℕ) → k < length (records bytes) → fault order L q (declared [] (take k (records bytes))) (nth (records bytes) k) ≡ 0) → check_patch order L q bytes ≡ passed
  checks_passed bytes h e = cond-true _ _ _ (eq-eqb _ 0 h) ∙ passed_from (records bytes) 0 [] e

pub records_length : (bytes : List ℕ) → length (records bytes) ≡ length bytes / 4
records_length [] = refl
records_length (m ∷ []) = refl
records_length (m ∷ a ∷ []) = refl
records_length (m ∷ a ∷ b ∷ []) = refl
records_length (m ∷ a ∷ b ∷ c ∷ rest) = omega (arith, records_length rest)

pub records_nth : (bytes : List ℕ) (i : ℕ) → i < length (records bytes)
    → nth (records bytes) i ≡ read (get_or bytes (4 * i) 0) (get_or bytes (4 * i + 1) 0) (get_or bytes (4 * i + 2) 0) (get_or bytes (4 * i + 3) 0)
records_nth [] i h = absurd (omega arith)
records_nth (m ∷ []) i h = absurd (omega arith)
records_nth (m ∷ a ∷ []) i h = absurd (omega arith)
records_nth (m ∷ a ∷ b ∷ []) i h = absurd (omega arith)
records_nth (m ∷ a ∷ b ∷ c ∷ rest) zero h = refl
records_nth (m ∷ a ∷ b ∷ c ∷ rest) (suc i) h =
    let e0 : 4 * suc i ≡ suc (suc (suc (suc (4 * i)))) = omega arith in
    let e1 : suc (suc (suc (suc (4 * i)))) + 1 ≡ suc (suc (suc (suc (4 * i + 1)))) = omega arith in
    let e2 : suc (suc (suc (suc (4 * i)))) + 2 ≡ suc (suc (suc (suc (4 * i + 2)))) = omega arith in
    let e3 : suc (suc (suc (suc (4 * i)))) + 3 ≡ suc (suc (suc (suc (4 * i + 3)))) = omega arith in
    rw (e0, e1, e2, e3) (records_nth rest i (omega arith))

pub declared_take : (rs : List Record) (cells : List ℕ) (i : ℕ) → i < length rs
    → declared cells (take (i + 1) rs) ≡ declare (declared cells (take i rs)) (nth rs i)
declared_take [] cells i h = absurd (omega arith)
declared_take (r ∷ rs) cells zero h = go rs
  where
    go : (rs : List Record) → declared (declare cells r) (take 0 rs) ≡ declare cells r
    go [] = refl
    go (s ∷ ss) = refl
declared_take (r ∷ rs) cells (suc i) h =
    let e : suc i + 1 ≡ suc (i + 1) = omega arith in rw e (declared_take rs (declare cells r) i (omega arith))
