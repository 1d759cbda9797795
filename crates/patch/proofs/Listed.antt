-- The list of paths holds exactly the paths, each once. Assumes nothing.
use Rattle.std.proofs.Common.{◌≡◌, ℕ, zero, suc, ◌+◌, ◌<◌, ◌≤◌, Bool, true, false, cond, ◌≢◌, ◌⊎◌, ◌↔◌, List, [], ◌∷◌, map, length, sym, refl, ap, ◌∙◌, inl, inr, arith}
use mathlib.Core.List.Memᴰ
use Rattle.std.proofs.lemmas.Bool.{eqb-true, eq-eqb, cond-true, cond-false}
use Rattle.patch.specs.Records.{Record, filler, cell, off, on, outlet, unmarked, unclean, records, declared, nth, reads}
use Rattle.patch.specs.Faults.{position, Order, Patch, Arc}
use Rattle.patch.specs.Paths.{Walk, arrived, by_off, by_on, IsPath, from_outlet, target, off_from, on_from, opens, starts, walks, paths, Among, Distinct}
use Rattle.patch.proofs.Facts.{Facts, facts, inside}
use Rattle.patch.proofs.Gather.{gather_mem, mem_gather, headed, distinct_headed}

module _ (rs : List Record) (x : ℕ → Bool) where
  no_way : {A : Type 0} → false ≡ true → A
  no_way d = let z : ◌≡◌ {A = ℕ} 0 1 = cc in absurd (omega arith)

  -- an open arc, and a walk from where it leads
  by_open : (b : Bool) (f k : ℕ) (p : List ℕ) (r : Record) → x (reads rs f) ≡ b → nth rs k ≡ r → cond b (on_from f r) (off_from f r) ≡ true
      → Walk rs x (target r) p → Walk rs x f (k ∷ p)
  by_open true f k p filler i e o w = no_way o
  by_open true f k p (cell j) i e o w = no_way o
  by_open true f k p (off g t c) i e o w = no_way o
  by_open true f k p (on g t c) i e o w = by_on (e ∙ ap (λ h. on h t c) (sym (eqb-true f g o))) i w
  by_open true f k p (outlet t c) i e o w = no_way o
  by_open true f k p unmarked i e o w = no_way o
  by_open true f k p unclean i e o w = no_way o
  by_open false f k p filler i e o w = no_way o
  by_open false f k p (cell j) i e o w = no_way o
  by_open false f k p (off g t c) i e o w = by_off (e ∙ ap (λ h. off h t c) (sym (eqb-true f g o))) i w
  by_open false f k p (on g t c) i e o w = no_way o
  by_open false f k p (outlet t c) i e o w = no_way o
  by_open false f k p unmarked i e o w = no_way o
  by_open false f k p unclean i e o w = no_way o

  opened : (f k : ℕ) (p : List ℕ) (r : Record) → nth rs k ≡ r → opens rs x f r ≡ true → Walk rs x (target r) p → Walk rs x f (k ∷ p)
  opened f k p r e o w = by_open (x (reads rs f)) f k p r refl e o w

  started : (k : ℕ) (p : List ℕ) (r : Record) → nth rs k ≡ r → starts r ≡ true → Walk rs x (target r) p → IsPath rs x (k ∷ p)
  started k p filler e o w = no_way o
  started k p (cell i) e o w = no_way o
  started k p (off g t c) e o w = no_way o
  started k p (on g t c) e o w = no_way o
  started k p (outlet t c) e o w = from_outlet e w
  started k p unmarked e o w = no_way o
  started k p unclean e o w = no_way o

  walks_are : (d f : ℕ) (p : List ℕ) → Among p (walks rs x d f) → Walk rs x f p
  unfolding walks
  walks_are d zero p m = rw (Memᴰ.eq_of_singleton m) arrived
  walks_are zero (suc f) p m = absurd (Memᴰ.not-nil m)
  walks_are (suc d) (suc f) p m =
      let g = mem_gather (λ k. cond (opens rs x (suc f) (nth rs k)) (map (◌∷◌ k) (walks rs x d (target (nth rs k)))) []) (length rs) p m in
      let h = headed (opens rs x (suc f) (nth rs g.0)) g.0 (walks rs x d (target (nth rs g.0))) p g.2 in
      rw (← h.1.2) (opened (suc f) g.0 h.1.0 (nth rs g.0) refl h.0 (walks_are d (target (nth rs g.0)) h.1.0 h.1.1))

  pub paths_are : (n : ℕ) (p : List ℕ) → Among p (paths rs n x) → IsPath rs x p
  unfolding paths
  paths_are n p m =
      let g = mem_gather (λ k. cond (starts (nth rs k)) (map (◌∷◌ k) (walks rs x n (target (nth rs k)))) []) (length rs) p m in
      let h = headed (starts (nth rs g.0)) g.0 (walks rs x n (target (nth rs g.0))) p g.2 in
      rw (← h.1.2) (started g.0 h.1.0 (nth rs g.0) refl h.0 (walks_are n (target (nth rs g.0)) h.1.0 h.1.1))

  distinct_walks : (d f : ℕ) → Distinct (walks rs x d f)
  unfolding walks
  distinct_walks d zero = (Memᴰ.not-nil, tt)
  distinct_walks zero (suc f) = tt
  distinct_walks (suc d) (suc f) =
      distinct_headed (λ k. opens rs x (suc f) (nth rs k)) (λ k. walks rs x d (target (nth rs k))) (length rs) (λ k h. distinct_walks d (target (nth rs k)))

  pub distinct_paths : (n : ℕ) → Distinct (paths rs n x)
  unfolding paths
  distinct_paths n =
      distinct_headed (λ k. starts (nth rs k)) (λ k. walks rs x n (target (nth rs k))) (length rs) (λ k h. distinct_walks n (target (nth rs k)))

  one_more : (d f k : ℕ) (p : List ℕ) → 0 < f → k < length rs → opens rs x f (nth rs k) ≡ true → Among p (walks rs x d (target (nth rs k)))
      → Among (k ∷ p) (walks rs x (suc d) f)
  unfolding walks
  one_more d zero k p z h o m = absurd (omega arith)
  one_more d (suc f) k p z h o m =
      gather_mem (λ j. cond (opens rs x (suc f) (nth rs j)) (map (◌∷◌ j) (walks rs x d (target (nth rs j)))) []) (length rs) k (k ∷ p) h (
      rw (cond-true _ (map (◌∷◌ k) (walks rs x d (target (nth rs k)))) [] o) (Memᴰ.map (◌∷◌ k) m))

  module _ (order : List ℕ) (q : ℕ) (F : Facts order q rs) where
    -- d arcs are enough from cell f
    Enough : ℕ → ℕ → Type 0
    Enough d f = (f ≡ 0) ⊎ (length order ≤ position order (reads rs f) + d)

    next : (d f t c : ℕ) → Arc order q (declared [] rs) f t c → Enough (suc d) f → Enough d t
    unfolding Enough
    next d f t c a (inl z) = absurd (omega (arith, a.from_cell))
    next d f t c a (inr l) = elim a.leads_later [ inl z ↦ inl z | inr h ↦ inr (omega arith) ]

    -- and there is one to take
    some_left : (d f t c : ℕ) → Arc order q (declared [] rs) f t c → Enough d f → (e : ℕ) × (d ≡ suc e)
    unfolding Enough
    some_left zero f t c a (inl z) = absurd (omega (arith, a.from_cell))
    some_left zero f t c a (inr l) = absurd (omega (arith, F.place_is f a.from_cell a.from_known))
    some_left (suc e) f t c a h = (e, refl)

    along : (d f k t c : ℕ) (p : List ℕ) (r : Record) → nth rs k ≡ r → r ≢ filler → target r ≡ t → opens rs x f r ≡ true → Arc order q (declared [] rs) f t c
        → Enough d f → ((e : ℕ) → Enough e t → Among p (walks rs x e t)) → Among (k ∷ p) (walks rs x d f)
    along d f k t c p r e real goes o a h ih =
        let s = some_left d f t c a h in
        rw s.1 (one_more s.0 f k p a.from_cell (inside rs k r e real) (rw e o) (rw (e, goes) (ih s.0 (next s.0 f t c a (rw s.1 at h)))))

    walked : (f : ℕ) (p : List ℕ) → Walk rs x f p → (d : ℕ) → Enough d f → Among p (walks rs x d f)
    unfolding walks
    walked f p arrived d h = Memᴰ.head refl
    walked f p (by_off {k} {f = g} {t} {c} {p = r} e o w) d h =
        along d g k t c r (off g t c) e (λ z. let y : ◌≡◌ {A = ℕ} 0 1 = cc in omega arith) refl (cond-false _ _ _ o ∙ eq-eqb g g refl) (rw e at (F.fine k)) h (walked t r w)
    walked f p (by_on {k} {f = g} {t} {c} {p = r} e o w) d h =
        along d g k t c r (on g t c) e (λ z. let y : ◌≡◌ {A = ℕ} 0 1 = cc in omega arith) refl (cond-true _ _ _ o ∙ eq-eqb g g refl) (rw e at (F.fine k)) h (walked t r w)

    enough : (t : ℕ) → Enough (length order) t
    unfolding Enough
    enough t = inr (omega arith)

    path_among : (p : List ℕ) → IsPath rs x p → Among p (paths rs (length order) x)
    unfolding paths
    path_among p (from_outlet {k} {t} {c} {p = r} e w) =
        gather_mem (λ j. cond (starts (nth rs j)) (map (◌∷◌ j) (walks rs x (length order) (target (nth rs j)))) []) (length rs) k (k ∷ r)
        (inside rs k (outlet t c) e (λ z. let y : ◌≡◌ {A = ℕ} 0 1 = cc in omega arith)) (
        rw e (Memᴰ.map (◌∷◌ k) (walked t r w (length order) (enough t))))

-- the list of paths holds exactly the paths, each once
pub listed : (order : List ℕ) (q : ℕ) (bytes : List ℕ) → Order order → Patch order q bytes → (x : ℕ → Bool)
    → ((p : List ℕ) → IsPath (records bytes) x p ↔ Among p (paths (records bytes) (length order) x)) × Distinct (paths (records bytes) (length order) x)
listed order q bytes o patch x = (
  λ p. (path_among (records bytes) x order q (facts order q bytes o patch) p, paths_are (records bytes) x (length order) p),
  distinct_paths (records bytes) x (length order),
)
