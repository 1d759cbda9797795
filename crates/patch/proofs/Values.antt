-- The sum over the paths of a patch is the sum over its outlet arcs of code × value of the target, over a field. Assumes nothing.
use Rattle.std.proofs.Common.{◌≡◌, ℕ, zero, suc, ◌+◌, ◌<◌, ◌≤◌, Bool, true, false, cond, ◌&&◌, eqb, ◌⊎◌, List, [], ◌∷◌, ◌++◌, map, length, sym, refl, ap, ◌∙◌, ap₂, inl, inr, arith}
use Rattle.std.proofs.lemmas.Bool.{eqb-true, eq-eqb, ne_eqb, cond-true, cond-false}
use Rattle.linear.specs.Field.{Field}
use Rattle.linear.specs.Sums.{fold, sum}
use Rattle.linear.proofs.Ring.{ring, zero_plus, times_zero, zero_times}
use Rattle.linear.proofs.Sums.{sum_cong, sum_zero, sum_plus, sum_times, sum_swap, sum_single}
use Rattle.patch.specs.Records.{Record, filler, cell, off, on, outlet, unmarked, unclean, declared, nth, reads, cells_of}
use Rattle.patch.specs.Faults.{position, Fine, Arc}
use Rattle.patch.specs.Paths.{target, code, off_from, on_from, opens, starts, walks, paths}
use Rattle.patch.proofs.Facts.{Facts}

pub push_cond : {A B : Type 0} (f : A → B) (b : Bool) (y z : A) → f (cond b y z) ≡ cond b (f y) (f z)
push_cond f true y z = refl
push_cond f false y z = refl

pub cond_when : {A : Type 0} (b : Bool) (y w z : A) → (b ≡ true → y ≡ w) → cond b y z ≡ cond b w z
cond_when true y w z e = e refl
cond_when false y w z e = refl

-- what follows of an open arc
pub open_arc : (order : List ℕ) (q : ℕ) (rs : List Record) (x : ℕ → Bool) (f : ℕ) (r : Record) → Fine order q (declared [] rs) r → opens rs x f r ≡ true
    → Arc order q (declared [] rs) f (target r) (code r)
open_arc order q rs x f r fine o = go (x (reads rs f)) r fine o
  where
    no_way : {A : Type 0} → false ≡ true → A
    no_way d = let z : ◌≡◌ {A = ℕ} 0 1 = cc in absurd (omega arith)

    go : (b : Bool) (r : Record) → Fine order q (declared [] rs) r → cond b (on_from f r) (off_from f r) ≡ true → Arc order q (declared [] rs) f (target r) (code r)
    go true filler a e = no_way e
    go true (cell i) a e = no_way e
    go true (off g t c) a e = no_way e
    go true (on g t c) a e = rw (eqb-true f g e) a
    go true (outlet t c) a e = no_way e
    go true unmarked a e = no_way e
    go true unclean a e = no_way e
    go false filler a e = no_way e
    go false (cell i) a e = no_way e
    go false (off g t c) a e = rw (eqb-true f g e) a
    go false (on g t c) a e = no_way e
    go false (outlet t c) a e = no_way e
    go false unmarked a e = no_way e
    go false unclean a e = no_way e

pub target_known : (order : List ℕ) (q : ℕ) (cells : List ℕ) (r : Record) → Fine order q cells r → target r ≤ length cells
target_known order q cells filler a = omega arith
target_known order q cells (cell i) a = omega arith
target_known order q cells (off f t c) a = a.to_known
target_known order q cells (on f t c) a = a.to_known
target_known order q cells (outlet t c) a = a.0
target_known order q cells unmarked a = omega arith
target_known order q cells unclean a = omega arith

module _ {K : Type 0} (F : Field K) (up : ℕ → K) (rs : List Record) where
  open F use {plus as ◌⊕◌, times as ◌⊗◌, neg}

  infixl 60 ◌⊕◌
  infixl 70 ◌⊗◌
  -- the product of a path's codes, and the sum over paths
  unfoldable pub prod : List ℕ → K
  prod [] = F.one
  prod (k ∷ p) = up (code (nth rs k)) ⊗ prod p

  unfoldable pub tot : List (List ℕ) → K
  tot [] = F.zero
  tot (p ∷ ps) = prod p ⊕ tot ps

  tot_append : (xs ys : List (List ℕ)) → tot (xs ++ ys) ≡ tot xs ⊕ tot ys
  unfolding tot
  tot_append [] ys = sym (zero_plus F (tot ys))
  tot_append (x ∷ xs) ys = ap (◌⊕◌ (prod x)) (tot_append xs ys) ∙ sym (F.plus_assoc (prod x) (tot xs) (tot ys))

  tot_gather : (n : ℕ) (g : ℕ → List (List ℕ)) → tot (fold [] ◌++◌ n g) ≡ sum F n (λ k. tot (g k))
  unfolding fold tot
  tot_gather zero g = refl
  tot_gather (suc n) g = tot_append (fold [] ◌++◌ n g) (g n) ∙ ap (λ y. y ⊕ tot (g n)) (tot_gather n g)

  tot_cons : (k : ℕ) (ws : List (List ℕ)) → tot (map (◌∷◌ k) ws) ≡ up (code (nth rs k)) ⊗ tot ws
  unfolding tot prod
  tot_cons k [] = sym (times_zero F _)
  tot_cons k (w ∷ ws) = ap (◌⊕◌ (up (code (nth rs k)) ⊗ prod w)) (tot_cons k ws) ∙ sym (F.times_plus (up (code (nth rs k))) (prod w) (tot ws))

  tot_none : tot [] ≡ F.zero
  unfolding tot
  tot_none = refl

  pub tot_picked : (pick : Record → Bool) (W : ℕ → List (List ℕ))
      → tot (fold [] ◌++◌ (length rs) (λ k. cond (pick (nth rs k)) (map (◌∷◌ k) (W (target (nth rs k)))) []))
      ≡ sum F (length rs) (λ k. cond (pick (nth rs k)) (up (code (nth rs k)) ⊗ tot (W (target (nth rs k)))) F.zero)
  tot_picked pick W =
      tot_gather (length rs) _ ∙ sum_cong F (length rs) _ _ (
      λ k h. push_cond tot (pick (nth rs k)) _ [] ∙ ap₂ (cond (pick (nth rs k))) (tot_cons k (W (target (nth rs k)))) tot_none)

  -- the sum, over the arcs picked, of code × value of the target
  abbrev pub flow_in : (Record → Bool) → (ℕ → K) → K
  flow_in pick V = sum F (length rs) (λ k. cond (pick (nth rs k)) (up (code (nth rs k)) ⊗ V (target (nth rs k))) F.zero)

  module _ (order : List ℕ) (q : ℕ) (A : Facts order q rs) (x : ℕ → Bool) (V : ℕ → K) (steady : V 0 ≡ F.one)
      (cells : (f : ℕ) → 0 < f → f ≤ cells_of rs → V f ≡ flow_in (opens rs x f) V) where
    walks_value : (d f : ℕ) → f ≤ cells_of rs → (f ≡ 0) ⊎ (length order ≤ position order (reads rs f) + d) → tot (walks rs x d f) ≡ V f
    unfolding walks tot prod
    walks_value d zero l h = F.plus_zero F.one ∙ sym steady
    walks_value zero (suc f) l h = elim h [ inl z ↦ absurd (omega arith) | inr m ↦ absurd (omega (arith, A.place_is (suc f) (omega arith) l)) ]
    walks_value (suc d) (suc f) l h =
        tot_picked (opens rs x (suc f)) (walks rs x d) ∙ sum_cong F (length rs) _ _ (
        λ k i.
        cond_when (opens rs x (suc f) (nth rs k)) _ _ F.zero (
        λ o.
        let a = open_arc order q rs x (suc f) (nth rs k) (A.fine k) o in
        ap (◌⊗◌ (up (code (nth rs k)))) (walks_value d (target (nth rs k)) a.to_known (go a h)))) ∙ sym (cells (suc f) (omega arith) l)
      where
        go : {t c : ℕ} → Arc order q (declared [] rs) (suc f) t c → (suc f ≡ 0) ⊎ (length order ≤ position order (reads rs (suc f)) + suc d)
            → (t ≡ 0) ⊎ (length order ≤ position order (reads rs t) + d)
        go a (inl z) = absurd (omega arith)
        go a (inr m) = elim a.leads_later [ inl z ↦ inl z | inr l ↦ inr (omega arith) ]

    pub paths_value : tot (paths rs (length order) x) ≡ flow_in starts V
    unfolding paths
    paths_value =
        tot_picked starts (walks rs x (length order)) ∙ sum_cong F (length rs) _ _ (
        λ k i.
        cond_when (starts (nth rs k)) _ _ F.zero (
        λ o.
        ap (◌⊗◌ (up (code (nth rs k)))) (
        walks_value (length order) (target (nth rs k)) (target_known order q (declared [] rs) (nth rs k) (A.fine k)) (inr (omega arith)))))

  -- one arc's part in a vector
  share : (m : ℕ) (b : Bool) (v : ℕ) (c : K) (V : ℕ → K) → v < m → sum F m (λ u. cond (b && eqb u v) c F.zero ⊗ V u) ≡ cond b (c ⊗ V v) F.zero
  share m false v c V h = sum_zero F m _ (λ u l. zero_times F (V u))
  share m true v c V h =
      sum_single F m (λ u. cond (eqb u v) c F.zero ⊗ V u) v h (λ u l ne. ap (λ y. y ⊗ V u) (cond-false _ _ _ (ne_eqb u v ne)) ∙ zero_times F (V u))
      ∙ ap (λ y. y ⊗ V v) (cond-true _ _ _ (eq-eqb v v refl))

  -- the sum of the codes of the arcs picked that lead to cell u
  abbrev pub sent_in : (Record → Bool) → ℕ → K
  sent_in pick u = sum F (length rs) (λ k. cond (pick (nth rs k) && eqb u (target (nth rs k))) (up (code (nth rs k))) F.zero)

  times_sum : (n : ℕ) (f : ℕ → K) (a : K) → sum F n f ⊗ a ≡ sum F n (λ k. f k ⊗ a)
  times_sum n f a = F.times_comm (sum F n f) a ∙ sym (sum_times F n a f) ∙ sum_cong F n _ _ (λ k h. F.times_comm a (f k))

  -- arcs gathered by their targets
  pub by_target : (m : ℕ) → ((k : ℕ) → target (nth rs k) ≤ m) → (pick : Record → Bool) (V : ℕ → K) → flow_in pick V ≡ sum F (suc m) (λ u. sent_in pick u ⊗ V u)
  by_target m known pick V =
      sum_cong F (length rs) _ _ (λ k h. sym (share (suc m) (pick (nth rs k)) (target (nth rs k)) (up (code (nth rs k))) V (omega (arith, known k))))
      ∙ sum_swap F (length rs) (suc m) (λ k u. cond (pick (nth rs k) && eqb u (target (nth rs k))) (up (code (nth rs k))) F.zero ⊗ V u)
      ∙ sum_cong F (suc m) _ _ (λ u h. sym (times_sum (length rs) (λ k. cond (pick (nth rs k) && eqb u (target (nth rs k))) (up (code (nth rs k))) F.zero) (V u)))

  -- off + bit × (on − off): the open arcs of a cell
  pub open_flow : (m : ℕ) → ((k : ℕ) → target (nth rs k) ≤ m) → (x : ℕ → Bool) (f : ℕ) (V : ℕ → K)
      → sum F (suc m) (λ u. sent_in (off_from f) u ⊗ V u) ⊕ cond (x (reads rs f)) (sum F (suc m) (λ u. (sent_in (on_from f) u ⊕ neg (sent_in (off_from f) u)) ⊗ V u)) F.zero
      ≡ flow_in (opens rs x f) V
  open_flow m known x f V = go (x (reads rs f))
    where
      go : (b : Bool)
          → sum F (suc m) (λ u. sent_in (off_from f) u ⊗ V u) ⊕ cond b (sum F (suc m) (λ u. (sent_in (on_from f) u ⊕ neg (sent_in (off_from f) u)) ⊗ V u)) F.zero
          ≡ flow_in (λ r. cond b (on_from f r) (off_from f r)) V
      go false = F.plus_zero _ ∙ sym (by_target m known (off_from f) V)
      go true =
          sym (sum_plus F (suc m) _ _) ∙ sum_cong F (suc m) _ _ (λ u h. both (sent_in (off_from f) u) (sent_in (on_from f) u) (V u)) ∙ sym (by_target m known (on_from f) V)
        where
          both : (a b c : K) → a ⊗ c ⊕ (b ⊕ neg a) ⊗ c ≡ b ⊗ c
          both a b c = simp ring
