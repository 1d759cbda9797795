-- One cell more is placed; one position more; and all.
use Rattle.std.proofs.Common.{◌≡◌, ℕ, zero, suc, ◌+◌, ◌-◌, ◌<◌, ◌≤◌, Bool, true, false, cond, eqb, ltb, ◌≢◌, List, length, length-take, get_or, take, set, replicate, sym, refl, ap, ◌∙◌, subst, inl, inr, arith, get_or-set_other, get_or-set_same}
use Rattle.std.proofs.lemmas.Bool.{cond-true, cond-false, eq-eqb, ne_eqb, lt-ltb, le-ltb, cases_eq, cases_order}
use Rattle.std.proofs.lemmas.List.{get_or-replicate}
use Rattle.settling.specs.Draft.{Ordered}
use Rattle.drafting.specs.Plan.{Placed, earlier, alike, Done, Placing}

abbrev one : Bool → ℕ
one b = cond b 1 0

one_is : (b : Bool) → b ≡ true → one b ≡ 1
one_is b e = cond-true b 1 0 e

one_not : (b : Bool) → b ≡ false → one b ≡ 0
one_not b e = cond-false b 1 0 e

at_most_one : (b : Bool) → one b ≤ 1
at_most_one true = omega arith
at_most_one false = omega arith

-- a number is below p + 1 if it is below p or is p
split : (x p : ℕ) → one (ltb x (p + 1)) ≡ one (ltb x p) + one (eqb x p)
split x p = elim (cases_order x p) [
  | inl e ↦ omega (arith, one_is (ltb x (p + 1)) (lt-ltb x (p + 1) (omega arith)), one_not (ltb x p) (le-ltb x p (omega arith)), one_is (eqb x p) (eq-eqb x p e))
  | inr s ↦ elim s [
    | inl l ↦ omega (arith, one_is (ltb x (p + 1)) (lt-ltb x (p + 1) (omega arith)), one_is (ltb x p) (lt-ltb x p l), one_not (eqb x p) (ne_eqb x p (λ e. omega arith)))
    | inr l ↦ omega (arith, one_not (ltb x (p + 1)) (le-ltb x (p + 1) (omega arith)), one_not (ltb x p) (le-ltb x p (omega arith)), one_not (eqb x p) (ne_eqb x p (λ e. omega arith)))
  ]
]

pub earlier_alike : (ps : List ℕ) (p k : ℕ) → earlier ps (p + 1) k ≡ earlier ps p k + alike ps p k
unfolding earlier alike
earlier_alike ps p zero = refl
earlier_alike ps p (suc k) = omega (arith, earlier_alike ps p k, split (get_or ps k 0) p)

-- no more than there are
pub at_most : (ps : List ℕ) (p k : ℕ) → earlier ps p k + alike ps p k ≤ k
unfolding earlier alike
at_most ps p zero = omega arith
at_most ps p (suc k) = omega (arith, at_most ps p k, split (get_or ps k 0) p, at_most_one (ltb (get_or ps k 0) (p + 1)))

-- a cell of position p that is to come makes one more
pub alike_more : (ps : List ℕ) (p c : ℕ) → get_or ps c 0 ≡ p → alike ps p (c + 1) ≡ alike ps p c + 1
unfolding alike
alike_more ps p c e = let s : c + 1 ≡ suc c = omega arith in ap (alike ps p) s ∙ ap (λ b. alike ps p c + b) (one_is (eqb (get_or ps c 0) p) (eq-eqb (get_or ps c 0) p e))

pub alike_same : (ps : List ℕ) (p c : ℕ) → get_or ps c 0 ≢ p → alike ps p (c + 1) ≡ alike ps p c
unfolding alike
alike_same ps p c ne = let s : c + 1 ≡ suc c = omega arith in ap (alike ps p) s ∙ omega (arith, one_not (eqb (get_or ps c 0) p) (ne_eqb (get_or ps c 0) p ne))

pub alike_rises : (ps : List ℕ) (p c d : ℕ) → alike ps p c ≤ alike ps p (c + d)
unfolding alike
alike_rises ps p c zero = let s : c + 0 ≡ c = omega arith in omega (arith, ap (alike ps p) s)
alike_rises ps p c (suc d) = let s : c + suc d ≡ suc (c + d) = omega arith in omega (arith, ap (alike ps p) s, alike_rises ps p c d)

pub all_earlier : (ps : List ℕ) (n k : ℕ) → ((i : ℕ) → i < k → get_or ps i 0 < n) → earlier ps n k ≡ k
unfolding earlier
all_earlier ps n zero h = refl
all_earlier ps n (suc k) h = omega (arith, all_earlier ps n k (λ i l. h i (omega arith)), one_is (ltb (get_or ps k 0) n) (lt-ltb (get_or ps k 0) n (h k (omega arith))))

pub none_earlier : (ps : List ℕ) (k : ℕ) → earlier ps 0 k ≡ 0
unfolding earlier
none_earlier ps zero = refl
none_earlier ps (suc k) = omega (arith, none_earlier ps k, one_not (ltb (get_or ps k 0) 0) (le-ltb (get_or ps k 0) 0 (omega arith)))

pub none_alike : (ps : List ℕ) (p : ℕ) → alike ps p 0 ≡ 0
unfolding alike
none_alike ps p = refl

-- what is done after one cell more, and after a position
done_less : (ps : List ℕ) (p c i : ℕ) → Done ps p (c + 1) i → i ≢ c → Done ps p c i
done_less ps p c i d ne = elim d [ inl l ↦ inl l | inr e ↦ inr (e.0, (let h = e.1 in omega arith)) ]

done_more : (ps : List ℕ) (p c i : ℕ) → Done ps p c i → Done ps p (c + 1) i
done_more ps p c i d = elim d [ inl l ↦ inl l | inr e ↦ inr (e.0, (let h = e.1 in omega arith)) ]

module _ (ps : List ℕ) (k n p c m : ℕ) (pos place : List ℕ) (S : Placing ps k n p c m pos place) where
  -- the cell c is of another position
  pub passed : get_or ps c 0 ≢ p → Placing ps k n p (c + 1) m pos place
  passed ne = record {
    number = S.number ∙ ap (λ a. earlier ps p k + a) (sym (alike_same ps p c ne));
    inside = λ i l d. S.inside i l (less i d);
    at = λ i l d. S.at i l (less i d);
    apart = λ i j li lj di dj e. S.apart i j li lj (less i di) (less j dj) e;
    bound = S.bound;
    rising = S.rising;
    last = S.last;
    fresh = λ z. absurd (omega arith);
    rest = S.rest;
    onto = λ t l. more t (S.onto t l);
  }
    where
      more : (t : ℕ) → (i : ℕ) × (i < k) × Done ps p c i × (get_or place i 0 ≡ t) → (i : ℕ) × (i < k) × Done ps p (c + 1) i × (get_or place i 0 ≡ t)
      more t (i, li, d, s) = (i, li, done_more ps p c i d, s)

      less : (i : ℕ) → Done ps p (c + 1) i → Done ps p c i
      less i d = elim d [ inl l ↦ inl l | inr e ↦ inr (e.0, elim (cases_eq i c) [ inl s ↦ absurd (ne (ap (λ x. get_or ps x 0) (sym s) ∙ e.0)) | inr s ↦ (let h = e.1 in omega arith) ]) ]

  pub room : c < k → get_or ps c 0 ≡ p → m < k
  room l e = omega (arith, S.number, alike_more ps p c e, alike_upto (c + 1) (omega arith), at_most ps p k)
    where
      alike_upto : (d : ℕ) → d ≤ k → alike ps p d ≤ alike ps p k
      alike_upto d h = let s : d + (k - d) ≡ k = omega arith in omega (arith, ap (alike ps p) s, alike_rises ps p d (k - d))

  -- it is placed
  pub placed : c < k → k ≤ 127 → length pos ≡ 128 → length place ≡ 128 → get_or ps c 0 ≡ p → Placing ps k n p (c + 1) (m + 1) (set pos m p) (set place c m)
  placed l few long wide e = record {
    number = omega (arith, S.number, alike_more ps p c e);
    inside = λ i li d. elim (cases_eq i c) [
      | inl s ↦ omega (arith, here i s)
      | inr s ↦ omega (arith, there i s, S.inside i li (done_less ps p c i d s))
    ];
    at = λ i li d. elim (cases_eq i c) [
      | inl s ↦ ap (λ t. get_or (set pos m p) t 0) (here i s) ∙ new m refl ∙ sym e ∙ ap (λ x. get_or ps x 0) (sym s)
      | inr s ↦ ap (λ t. get_or (set pos m p) t 0) (there i s) ∙ old (get_or place i 0) (let h = S.inside i li (done_less ps p c i d s) in omega arith) ∙ S.at i li (done_less ps p c i d s)
    ];
    apart = λ i j li lj di dj s. elim (cases_eq i c) [
      | inl a ↦ elim (cases_eq j c) [
        | inl b ↦ a ∙ sym b
        | inr b ↦ absurd (omega (arith, here i a, there j b, s, S.inside j lj (done_less ps p c j dj b)))
      ]
      | inr a ↦ elim (cases_eq j c) [
        | inl b ↦ absurd (omega (arith, here j b, there i a, s, S.inside i li (done_less ps p c i di a)))
        | inr b ↦ S.apart i j li lj (done_less ps p c i di a) (done_less ps p c j dj b) (sym (there i a) ∙ s ∙ there j b)
      ]
    ];
    bound = λ i. elim (cases_eq i c) [ inl s ↦ omega (arith, here i s) | inr s ↦ omega (arith, there i s, S.bound i) ];
    rising = λ t u a b. elim (cases_eq u m) [
      | inl s ↦ elim (cases_eq t m) [
        | inl z ↦ omega (arith, new t z, new u s)
        | inr z ↦ omega (arith, new u s, old t (λ y. z y), S.last t (omega arith))
      ]
      | inr s ↦ omega (arith, old u s, old t (λ y. omega arith), S.rising t u a (omega arith))
    ];
    last = λ t b. elim (cases_eq t m) [ inl s ↦ omega (arith, new t s) | inr s ↦ omega (arith, old t s, S.last t (omega arith)) ];
    fresh = λ z. absurd (omega arith);
    rest = λ t a b. old t (λ y. omega arith) ∙ S.rest t (omega arith) b;
    onto = λ t b. elim (cases_eq t m) [
      | inl s ↦ (c, l, inr (e, (omega arith)), here c refl ∙ sym s)
      | inr s ↦ more t (S.onto t (omega arith))
    ];
  }
    where
      inside_m : m < length pos
      inside_m = let r = room l e in omega arith

      here : (i : ℕ) → i ≡ c → get_or (set place c m) i 0 ≡ m
      here i s = let h : c < length place = omega arith in ap (λ x. get_or (set place c m) x 0) s ∙ get_or-set_same place c m 0 h

      there : (i : ℕ) → i ≢ c → get_or (set place c m) i 0 ≡ get_or place i 0
      there i s = get_or-set_other place c i m 0 s

      new : (t : ℕ) → t ≡ m → get_or (set pos m p) t 0 ≡ p
      new t s = ap (λ x. get_or (set pos m p) x 0) s ∙ get_or-set_same pos m p 0 inside_m

      old : (t : ℕ) → t ≢ m → get_or (set pos m p) t 0 ≡ get_or pos t 0
      old t s = get_or-set_other pos m t p 0 s

      -- the cell c was not placed before
      other : (i : ℕ) → Done ps p c i → i ≢ c
      other i d s = elim d [ inl h ↦ omega (arith, e, ap (λ x. get_or ps x 0) s) | inr h ↦ (let a = h.1 in omega arith) ]

      more : (t : ℕ) → (i : ℕ) × (i < k) × Done ps p c i × (get_or place i 0 ≡ t) → (i : ℕ) × (i < k) × Done ps p (c + 1) i × (get_or (set place c m) i 0 ≡ t)
      more t (i, li, d, s) = (i, li, done_more ps p c i d, there i (other i d) ∙ s)

  -- and the places are in order
  pub placed_order : c < k → k ≤ 127 → length pos ≡ 128 → get_or ps c 0 ≡ p → p < n → Ordered (m + 1) (set pos m p)
  placed_order l few long e low = record {
    cells = λ t h. omega (arith, below t h, next);
    rising = λ t u a b. elim (cases_eq u (m + 1)) [
      | inl s ↦ elim (cases_eq t (m + 1)) [
        | inl z ↦ omega (arith, ap (λ x. get_or (set pos m p) x 0) (z ∙ sym s))
        | inr z ↦ omega (arith, below t (omega arith), next, ap (λ x. get_or (set pos m p) x 0) s)
      ]
      | inr s ↦ step t u a (omega arith)
    ];
  }
    where
      few_are : m < k
      few_are = room l e

      next : get_or (set pos m p) (m + 1) 0 ≡ n
      next = get_or-set_other pos m (m + 1) p 0 (λ z. omega arith) ∙ S.rest (m + 1) (omega arith) (omega (arith, few_are))

      here : get_or (set pos m p) m 0 ≡ p
      here = get_or-set_same pos m p 0 (omega (arith, few_are))

      old : (t : ℕ) → t < m → get_or (set pos m p) t 0 ≡ get_or pos t 0
      old t h = get_or-set_other pos m t p 0 (λ z. omega arith)

      step : (t u : ℕ) → t ≤ u → u < m + 1 → get_or (set pos m p) t 0 ≤ get_or (set pos m p) u 0
      step t u a b = elim (cases_eq u m) [
        | inl s ↦ elim (cases_eq t m) [
          | inl z ↦ omega (arith, ap (λ x. get_or (set pos m p) x 0) (z ∙ sym s))
          | inr z ↦ omega (arith, ap (λ x. get_or (set pos m p) x 0) s, here, old t (omega arith), S.last t (omega arith))
        ]
        | inr s ↦ omega (arith, old u (omega arith), old t (omega arith), S.rising t u a (omega arith))
      ]

      below : (t : ℕ) → t < m + 1 → get_or (set pos m p) t 0 < n
      below t h = omega (arith, step t m (omega arith) (omega arith), here, low)

-- a position is through
pub next_position : (ps : List ℕ) (k n p m : ℕ) (pos place : List ℕ) → Placing ps k n p k m pos place → Placing ps k n (p + 1) 0 m pos place
next_position ps k n p m pos place S = record {
  number = omega (arith, S.number, earlier_alike ps p k, none_alike ps (p + 1));
  inside = λ i l d. S.inside i l (back i l d);
  at = λ i l d. S.at i l (back i l d);
  apart = λ i j li lj di dj e. S.apart i j li lj (back i li di) (back j lj dj) e;
  bound = S.bound;
  rising = S.rising;
  last = λ t l. omega (arith, S.last t l);
  fresh = λ z t l. omega (arith, S.last t l);
  rest = S.rest;
  onto = λ t l. forth t (S.onto t l);
}
  where
    forth : (t : ℕ) → (i : ℕ) × (i < k) × Done ps p k i × (get_or place i 0 ≡ t) → (i : ℕ) × (i < k) × Done ps (p + 1) 0 i × (get_or place i 0 ≡ t)
    forth t (i, li, d, s) = (i, li, elim d [ inl h ↦ inl (omega arith) | inr h ↦ inl (let a = h.0 in omega arith) ], s)

    back : (i : ℕ) → i < k → Done ps (p + 1) 0 i → Done ps p k i
    back i l d = elim d [
      | inl h ↦ elim (cases_eq (get_or ps i 0) p) [ inl e ↦ inr (e, l) | inr e ↦ inl (omega arith) ]
      | inr e ↦ absurd (let h = e.1 in omega arith)
    ]

-- all positions are
pub finished : (ps : List ℕ) (k n m : ℕ) (pos place : List ℕ) → k ≤ 127 → Placing ps k n n 0 m pos place → Placed ps k n m pos place
finished ps k n m pos place few S = record {
  few = few_are;
  all = λ h. S.number ∙ omega (arith, all_earlier ps n k h, none_alike ps n);
  inside = λ i l h. S.inside i l (inl h);
  at = λ i l h. S.at i l (inl h);
  apart = λ i j li lj hi hj e. S.apart i j li lj (inl hi) (inl hj) e;
  bound = S.bound;
  steady = steady_is;
  cells = λ t l. S.fresh refl t l;
  rising = λ t u a b. elim (cases_eq u m) [
    | inl s ↦ elim (cases_eq t m) [
      | inl z ↦ omega (arith, ap (λ x. get_or pos x 0) z, ap (λ x. get_or pos x 0) s)
      | inr z ↦ omega (arith, ap (λ x. get_or pos x 0) s, steady_is, S.fresh refl t (omega arith))
    ]
    | inr s ↦ S.rising t u a (omega arith)
  ];
  onto = λ t l. found t (S.onto t l);
}
  where
    found : (t : ℕ) → (i : ℕ) × (i < k) × Done ps n 0 i × (get_or place i 0 ≡ t) → (i : ℕ) × (i < k) × (get_or ps i 0 < n) × (get_or place i 0 ≡ t)
    found t (i, li, d, s) = (i, li, elim d [ inl h ↦ h | inr h ↦ absurd (let a = h.1 in omega arith) ], s)

    few_are : m ≤ k
    few_are = omega (arith, S.number, none_alike ps n, at_most ps n k)

    steady_is : get_or pos m 0 ≡ n
    steady_is = S.rest m (omega arith) (omega (arith, few_are))

-- the same of the first k positions of a list
pub first_placed : (ps : List ℕ) (k n n' m : ℕ) (pos place : List ℕ) → k ≤ length ps → n ≡ n' → Placed (take k ps) (length (take k ps)) n m pos place → Placed (take k ps) k n' m pos place
first_placed ps k n n' m pos place long e d =
    let l : length (take k ps) ≡ k = omega (arith, length-take k ps) in
    subst (λ (i : ℕ). Placed (take k ps) k i m pos place) e (subst (λ (i : ℕ). Placed (take k ps) i n m pos place) l d)

repeated_zero : (m i : ℕ) → ◌≡◌ {A = ℕ} (get_or (replicate m 0) i 0) 0
repeated_zero zero i = refl
repeated_zero (suc m) zero = refl
repeated_zero (suc m) (suc i) = repeated_zero m i

-- nothing is placed yet
pub started : (ps : List ℕ) (k n : ℕ) → Placing ps k n 0 0 0 (replicate 128 n) (replicate 128 0)
started ps k n = record {
  number = omega (arith, none_earlier ps k, none_alike ps 0);
  inside = λ i l d. absurd (not_done i d);
  at = λ i l d. absurd (not_done i d);
  apart = λ i j li lj di dj e. absurd (not_done i di);
  bound = λ i. omega (arith, repeated_zero 128 i);
  rising = λ t u a b. absurd (omega arith);
  last = λ t l. absurd (omega arith);
  fresh = λ z t l. absurd (omega arith);
  rest = λ t a b. get_or-replicate 128 t n 0 b;
  onto = λ t l. absurd (omega arith);
}
  where
    not_done : (i : ℕ) → Done ps 0 0 i → ⊥
    not_done i d = elim d [ inl l ↦ omega arith | inr e ↦ (let h = e.1 in omega arith) ]
