-- A patch that keeps the order and the first four conditions is the encoding of a diagram in echelon form. Assumes nothing.
use Rattle.std.proofs.Common.{◌≡◌, ℕ, zero, suc, ◌-◌, ◌%◌, ◌<◌, ◌≤◌, Bool, true, false, cond, ◌&&◌, eqb, ◌≢◌, ◌⊎◌, List, [], ◌∷◌, ◌++◌, map, length, get_or, sym, refl, ap, ◌∙◌, ap₂, inl, inr, append_assoc, append-nil, arith}
use mathlib.Core.Logic.{dite, dif_pos}
use mathlib.Core.HLevel.{dec→stable}
use mathlib.Core.List.Memᴰ
use mathlib.Core.List.{Memᴰ}
use native.Mathlib.Bridge.{le_prop}
use native.Mathlib.Decide.{ℕ_discrete, dec_lt, dec_le}
use Rattle.std.proofs.lemmas.Bool.{cases_lt, cases_order, cond_both, eqb-true, eq-eqb, and_parts, and_from}
use Rattle.patch.specs.Records.{Record, filler, cell, off, on, outlet, unmarked, unclean, read, records, declare, declared, nth, reads, cells_of}
use Rattle.patch.specs.Faults.{Order, Fine, AllFine, Patch}
use Rattle.patch.specs.Paths.{target, code, on_from, starts, Among}
use Rattle.patch.specs.Settled.{Plain, rank, source, Precedes, Head, Kept}
use Rattle.patch.specs.Encoding.{four, written, diagram_records, encode, EchelonNumbers}
use Rattle.patch.proofs.Facts.{Facts, facts_of}
use Rattle.patch.proofs.Each.{Each, each_map, each_among, Pairs, nth_among}
use Rattle.patch.proofs.Encoded.{Real, Shape, shape_of, there, there_out, kept_rs, all_cells, inputs_length, inputs_at}

-- bytes are those of their records
read_four : (m a b c : ℕ) → Real (read m a b c) → four (read m a b c) ≡ m ∷ a ∷ b ∷ c ∷ []
read_four m a b c =
    cond_both (eqb m 0) _ _ P (
    λ e.
    cond_both (eqb a 0 && eqb b 0 && eqb c 0) filler unclean P (
    λ f r.
    let g = and_parts (eqb a 0 && eqb b 0) (eqb c 0) f in
    let h = and_parts (eqb a 0) (eqb b 0) g.0 in list (eqb-true m 0 e) (eqb-true a 0 h.0) (eqb-true b 0 h.1) (eqb-true c 0 g.1)) (λ f r. absurd r)) (
    λ _.
    cond_both (eqb m 1) _ _ P (
    λ e.
    cond_both (eqb b 0 && eqb c 0) (cell a) unclean P (
    λ f r. let g = and_parts (eqb b 0) (eqb c 0) f in list (eqb-true m 1 e) refl (eqb-true b 0 g.0) (eqb-true c 0 g.1)) (λ f r. absurd r)) (
    λ _.
    cond_both (eqb m 2) _ _ P (λ e r. list (eqb-true m 2 e) refl refl refl) (
    λ _.
    cond_both (eqb m 3) _ _ P (λ e r. list (eqb-true m 3 e) refl refl refl) (
    λ _.
    cond_both (eqb m 4) _ _ P (
    λ e. cond_both (eqb a 0) (outlet b c) unclean P (λ f r. list (eqb-true m 4 e) (eqb-true a 0 f) refl refl) (λ f r. absurd r)) (λ e r. absurd r)))))
  where
    P : Record → Type 0
    P r = Real r → four r ≡ m ∷ a ∷ b ∷ c ∷ []

    list : {m' a' b' c' : ℕ} → m ≡ m' → a ≡ a' → b ≡ b' → c ≡ c' → m' ∷ a' ∷ b' ∷ c' ∷ [] ≡ m ∷ a ∷ b ∷ c ∷ []
    list e f g h = cc

pub rebuilt : (bytes : List ℕ) → length bytes % 4 ≡ 0 → Each Real (records bytes) → written (records bytes) ≡ bytes
rebuilt [] h r = refl
rebuilt (m ∷ []) h r = absurd (omega arith)
rebuilt (m ∷ a ∷ []) h r = absurd (omega arith)
rebuilt (m ∷ a ∷ b ∷ []) h r = absurd (omega arith)
rebuilt (m ∷ a ∷ b ∷ c ∷ rest) h r = ap₂ ◌++◌ (read_four m a b c r.0) (rebuilt rest (omega arith) r.1)

fine_real : (order : List ℕ) (q : ℕ) (cells : List ℕ) (r : Record) → Fine order q cells r → Real r
fine_real order q cells filler f = tt
fine_real order q cells (cell i) f = tt
fine_real order q cells (off g t c) f = tt
fine_real order q cells (on g t c) f = tt
fine_real order q cells (outlet t c) f = tt
fine_real order q cells unmarked f = f
fine_real order q cells unclean f = f

pub all_real : (order : List ℕ) (q : ℕ) (rs : List Record) (cells : List ℕ) → AllFine order q cells rs → Each Real rs
all_real order q [] cells a = tt
all_real order q (r ∷ rs) cells a = (fine_real order q cells r a.0, all_real order q rs (declare cells r) a.1)

-- members and their places
pub among_nth : (rs : List Record) (r : Record) → Among r rs → (k : ℕ) × (k < length rs) × (nth rs k ≡ r)
among_nth [] r m = absurd (Memᴰ.not-nil m)
among_nth (s ∷ rs) r m = go (Memᴰ.cases_cons m) (among_nth rs r)
  where
    go : (r ≡ s) ⊎ Among r rs → (Among r rs → (k : ℕ) × (k < length rs) × (nth rs k ≡ r)) → (k : ℕ) × (k < suc (length rs)) × (nth (s ∷ rs) k ≡ r)
    go (inl e) ih = (0, omega arith, sym e)
    go (inr n) ih = let i = ih n in (suc i.0, omega (arith, i.1), i.2)

nth_pairs : (R : Record → Record → Type 0) (rs : List Record) → ((j k : ℕ) → j < k → k < length rs → R (nth rs j) (nth rs k)) → Pairs R rs
nth_pairs R [] e = tt
nth_pairs R (r ∷ rs) e = (nth_each (R r) rs (λ k h. e 0 (suc k) (omega arith) (omega arith)), nth_pairs R rs (λ j k h l. e (suc j) (suc k) (omega arith) (omega arith)))
  where
    nth_each : (P : Record → Type 0) (ss : List Record) → ((k : ℕ) → k < length ss → P (nth ss k)) → Each P ss
    nth_each P [] f = tt
    nth_each P (s ∷ ss) f = (f 0 (omega arith), nth_each P ss (λ k h. f (suc k) (omega arith)))

among_each : (P : Record → Type 0) (rs : List Record) → ((r : Record) → Among r rs → P r) → Each P rs
among_each P [] f = tt
among_each P (r ∷ rs) f = (f r (Memᴰ.head refl), among_each P rs (λ s m. f s (Memᴰ.tail m)))

-- two lists in a strict order with the same members are the same
pub same_sorted : (S : Record → Record → Type 0) → ((r s : Record) → S r s → S s r → ⊥) → (rs ss : List Record) → Pairs S rs → Pairs S ss
    → ((r : Record) → Among r rs → Among r ss) → ((r : Record) → Among r ss → Among r rs) → rs ≡ ss
same_sorted S once [] [] a b f g = refl
same_sorted S once [] (s ∷ ss) a b f g = absurd (Memᴰ.not-nil (g s (Memᴰ.head refl)))
same_sorted S once (r ∷ rs) [] a b f g = absurd (Memᴰ.not-nil (f r (Memᴰ.head refl)))
same_sorted S once (r ∷ rs) (s ∷ ss) a b f g =
    let e : r ≡ s = first (Memᴰ.cases_cons (f r (Memᴰ.head refl))) (Memᴰ.cases_cons (g s (Memᴰ.head refl))) in
    ap₂ ◌∷◌ e (
    same_sorted S once rs ss a.1 b.1 (λ t m. down rs ss r s t a.0 e m (Memᴰ.cases_cons (f t (Memᴰ.tail m)))) (
    λ t m. down ss rs s r t b.0 (sym e) m (Memᴰ.cases_cons (g t (Memᴰ.tail m)))))
  where
    first : (r ≡ s) ⊎ Among r ss → (s ≡ r) ⊎ Among s rs → r ≡ s
    first (inl e) n = e
    first (inr m) (inl e) = sym e
    first (inr m) (inr n) = absurd (once r s (each_among (S r) rs a.0 s n) (each_among (S s) ss b.0 r m))

    down : (xs ys : List Record) (x y t : Record) → Each (S x) xs → x ≡ y → Among t xs → (t ≡ y) ⊎ Among t ys → Among t ys
    down xs ys x y t h e m (inr n) = n
    down xs ys x y t h e m (inl d) =
        let z : t ≡ x = d ∙ sym e in
        let w : S x t = each_among (S x) xs h t m in
        let v : S x x = rw z at w in absurd (once x x v v)

-- the cells that a list begins with, and what follows
lead : List Record → List ℕ
lead [] = []
lead (filler ∷ rs) = []
lead (cell i ∷ rs) = i ∷ lead rs
lead (off f t c ∷ rs) = []
lead (on f t c ∷ rs) = []
lead (outlet t c ∷ rs) = []
lead (unmarked ∷ rs) = []
lead (unclean ∷ rs) = []

rest : List Record → List Record
rest [] = []
rest (filler ∷ rs) = filler ∷ rs
rest (cell i ∷ rs) = rest rs
rest (off f t c ∷ rs) = off f t c ∷ rs
rest (on f t c ∷ rs) = on f t c ∷ rs
rest (outlet t c ∷ rs) = outlet t c ∷ rs
rest (unmarked ∷ rs) = unmarked ∷ rs
rest (unclean ∷ rs) = unclean ∷ rs

lead_rest : (rs : List Record) → map cell (lead rs) ++ rest rs ≡ rs
unfolding lead rest
lead_rest [] = refl
lead_rest (filler ∷ rs) = refl
lead_rest (cell i ∷ rs) = ap (◌∷◌ (cell i)) (lead_rest rs)
lead_rest (off f t c ∷ rs) = refl
lead_rest (on f t c ∷ rs) = refl
lead_rest (outlet t c ∷ rs) = refl
lead_rest (unmarked ∷ rs) = refl
lead_rest (unclean ∷ rs) = refl

-- an arc's rank is 1 or 2
plain_rank : (r : Record) → Plain r → (rank r ≡ 0) ⊎ ((rank r ≡ 1) ⊎ (rank r ≡ 2))
plain_rank filler p = absurd p
plain_rank (cell i) p = inl refl
plain_rank (off f t c) p = absurd p
plain_rank (on f t c) p = inr (inl refl)
plain_rank (outlet t c) p = inr (inr refl)
plain_rank unmarked p = absurd p
plain_rank unclean p = absurd p

plain_on : (r : Record) → Plain r → rank r ≡ 1 → r ≡ on (source r) (target r) (code r)
plain_on filler p e = absurd p
plain_on (cell i) p e = absurd (omega arith)
plain_on (off f t c) p e = absurd p
plain_on (on f t c) p e = refl
plain_on (outlet t c) p e = absurd (omega arith)
plain_on unmarked p e = absurd p
plain_on unclean p e = absurd p

plain_outlet : (r : Record) → Plain r → rank r ≡ 2 → r ≡ outlet (target r) (code r)
plain_outlet filler p e = absurd p
plain_outlet (cell i) p e = absurd (omega arith)
plain_outlet (off f t c) p e = absurd p
plain_outlet (on f t c) p e = absurd (omega arith)
plain_outlet (outlet t c) p e = refl
plain_outlet unmarked p e = absurd p
plain_outlet unclean p e = absurd p

still : (cells : List ℕ) (r : Record) → 0 < rank r → declare cells r ≡ cells
still cells filler h = refl
still cells (cell i) h = absurd (omega arith)
still cells (off f t c) h = refl
still cells (on f t c) h = refl
still cells (outlet t c) h = refl
still cells unmarked h = refl
still cells unclean h = refl

declared_arcs : (rs : List Record) (cells : List ℕ) → Each (λ r. 0 < rank r) rs → declared cells rs ≡ cells
declared_arcs [] cells a = refl
declared_arcs (r ∷ rs) cells a = rw (still cells r a.0) (declared_arcs rs cells a.1)

weaker : (r : Record) → 0 < rank r → (s : Record) → Precedes r s → 0 < rank s
weaker r h s (inl l) = omega arith
weaker r h s (inr e) = omega (arith, e.0)

-- after the cells only arcs
arcs_after : (rs : List Record) → Each Plain rs → Pairs Precedes rs → Each (λ r. 0 < rank r) (rest rs)
unfolding rest
arcs_after [] p a = tt
arcs_after (filler ∷ rs) p a = absurd p.0
arcs_after (cell i ∷ rs) p a = arcs_after rs p.1 a.1
arcs_after (off f t c ∷ rs) p a = absurd p.0
arcs_after (on f t c ∷ rs) p a = (omega arith, each_map (Precedes (on f t c)) (λ r. 0 < rank r) (weaker (on f t c) (omega arith)) rs a.0)
arcs_after (outlet t c ∷ rs) p a = (omega arith, each_map (Precedes (outlet t c)) (λ r. 0 < rank r) (weaker (outlet t c) (omega arith)) rs a.0)
arcs_after (unmarked ∷ rs) p a = absurd p.0
arcs_after (unclean ∷ rs) p a = absurd p.0

lead_declared : (rs : List Record) (cells : List ℕ) → Each (λ r. 0 < rank r) (rest rs) → declared cells rs ≡ cells ++ lead rs
unfolding lead rest
lead_declared [] cells a = sym (append-nil cells)
lead_declared (filler ∷ rs) cells a = absurd (omega (arith, a.0))
lead_declared (cell i ∷ rs) cells a = lead_declared rs (cells ++ i ∷ []) a ∙ append_assoc cells (i ∷ []) (lead rs)
lead_declared (off f t c ∷ rs) cells a = declared_arcs rs cells a.1 ∙ sym (append-nil cells)
lead_declared (on f t c ∷ rs) cells a = declared_arcs rs cells a.1 ∙ sym (append-nil cells)
lead_declared (outlet t c ∷ rs) cells a = declared_arcs rs cells a.1 ∙ sym (append-nil cells)
lead_declared (unmarked ∷ rs) cells a = absurd (omega (arith, a.0))
lead_declared (unclean ∷ rs) cells a = absurd (omega (arith, a.0))

pairs_rest : (R : Record → Record → Type 0) (rs : List Record) → Pairs R rs → Pairs R (rest rs)
unfolding rest
pairs_rest R [] a = tt
pairs_rest R (filler ∷ rs) a = a
pairs_rest R (cell i ∷ rs) a = pairs_rest R rs a.1
pairs_rest R (off f t c ∷ rs) a = a
pairs_rest R (on f t c ∷ rs) a = a
pairs_rest R (outlet t c ∷ rs) a = a
pairs_rest R (unmarked ∷ rs) a = a
pairs_rest R (unclean ∷ rs) a = a

rest_among : (rs : List Record) (r : Record) → Among r (rest rs) → Among r rs
unfolding rest
rest_among rs r m = rw (← (lead_rest rs)) (Memᴰ.append_right (map cell (lead rs)) m)

among_rest : (rs : List Record) (r : Record) → 0 < rank r → Among r rs → Among r (rest rs)
among_rest rs r h m =
    elim (Memᴰ.append_cases (map cell (lead rs)) (rw (← (lead_rest rs)) at m)) [
      | inl n ↦ let c = Memᴰ.of_map cell (lead rs) n in let z : rank r ≡ 0 = ap rank (sym c.2) in absurd (omega arith)
      | inr n ↦ n
    ]

-- arcs in their order, strictly
Under : Record → Record → Type 0
Under r s = (rank r < rank s) ⊎ ((rank r ≡ rank s) × ((source r < source s) ⊎ ((source r ≡ source s) × (target r < target s))))

under_once : (r s : Record) → Under r s → Under s r → ⊥
unfolding Under
under_once r s (inl a) (inl b) = omega arith
under_once r s (inl a) (inr b) = omega (arith, b.0)
under_once r s (inr a) (inl b) = omega (arith, a.0)
under_once r s (inr (a, inl d)) (inr (b, inl e)) = omega arith
under_once r s (inr (a, inl d)) (inr (b, inr e)) = omega (arith, e.0)
under_once r s (inr (a, inr d)) (inr (b, inl e)) = omega (arith, d.0)
under_once r s (inr (a, inr d)) (inr (b, inr e)) = omega (arith, d.1, e.1)

module _ (order : List ℕ) (rs : List Record) (K : Kept order rs) where
  plains : Each Plain rs
  plains = among_each Plain rs K.plain

  precedes : Pairs Precedes rs
  precedes = nth_pairs Precedes rs K.ordered

  after : Each (λ r. 0 < rank r) (rest rs)
  after = arcs_after rs plains precedes

  lead_is : declared [] rs ≡ lead rs
  lead_is = lead_declared rs [] after

  -- two arcs with the same ends are the same record
  same_ends : (i j : ℕ) → i < length rs → j < length rs → 0 < rank (nth rs i) → rank (nth rs i) ≡ rank (nth rs j) → source (nth rs i) ≡ source (nth rs j)
      → target (nth rs i) ≡ target (nth rs j) → i ≡ j
  same_ends i j h l z e f g =
      let p = K.plain (nth rs i) (nth_among rs i h) in
      let q = K.plain (nth rs j) (nth_among rs j l) in
      elim (plain_rank (nth rs i) p) [
        | inl y ↦ absurd (omega arith)
        | inr (inl y) ↦
            K.one_arc i j (source (nth rs i)) (target (nth rs i)) (code (nth rs i)) (code (nth rs j)) (plain_on (nth rs i) p y) (
            plain_on (nth rs j) q (sym e ∙ y) ∙ ap₂ (λ a b. on a b (code (nth rs j))) (sym f) (sym g))
        | inr (inr y) ↦
            K.one_outlet i j (target (nth rs i)) (code (nth rs i)) (code (nth rs j)) (plain_outlet (nth rs i) p y) (
            plain_outlet (nth rs j) q (sym e ∙ y) ∙ ap (λ b. outlet b (code (nth rs j))) (sym g))
      ]

  under : (i j : ℕ) → i < j → j < length rs → Precedes (nth rs i) (nth rs j) → 0 < rank (nth rs i) → Under (nth rs i) (nth rs j)
  unfolding Under
  under i j h l (inl a) z = inl a
  under i j h l (inr (e, inl a)) z = inr (e, inl a)
  under i j h l (inr (e, inr a)) z =
      elim (cases_lt (target (nth rs i)) (target (nth rs j))) [
        | inl t ↦ inr (e, inr (a.0, t))
        | inr t ↦
            let g : target (nth rs i) ≡ target (nth rs j) = omega (arith, a.1) in
            absurd (omega (arith, same_ends i j (omega arith) l z e a.0 g))
      ]

  each_arrow : (r : Record) (ss : List Record) → 0 < rank r → Each (λ s. 0 < rank r → Under r s) ss → Each (Under r) ss
  each_arrow r ss z a = each_map (λ s. 0 < rank r → Under r s) (Under r) (λ s f. f z) ss a

  pairs_arrow : (ss : List Record) → Each (λ r. 0 < rank r) ss → Pairs (λ r s. 0 < rank r → Under r s) ss → Pairs Under ss
  pairs_arrow [] z a = tt
  pairs_arrow (s ∷ ss) z a = (each_arrow s ss z.0 a.0, pairs_arrow ss z.1 a.1)

  sorted : Pairs Under (rest rs)
  sorted =
      pairs_arrow (rest rs) after (
      pairs_rest (λ r s. 0 < rank r → Under r s) rs (nth_pairs (λ r s. 0 < rank r → Under r s) rs (λ i j h l. under i j h l (K.ordered i j h l))))

-- a list that keeps the conditions is known by its cells and its arcs
pub same_list : (order : List ℕ) (rs ss : List Record) → Kept order rs → Kept order ss → declared [] rs ≡ declared [] ss
    → ((r : Record) → 0 < rank r → Among r rs → Among r ss) → ((r : Record) → 0 < rank r → Among r ss → Among r rs) → rs ≡ ss
same_list order rs ss K M e f g =
    sym (lead_rest rs) ∙ ap₂ (λ (a : List ℕ) (b : List Record). map cell a ++ b) (sym (lead_is order rs K) ∙ e ∙ lead_is order ss M) (
    same_sorted Under under_once (rest rs) (rest ss) (sorted order rs K) (sorted order ss M) (
    λ r m. let z = each_among (λ s. 0 < rank s) (rest rs) (after order rs K) r m in among_rest ss r z (f r z (rest_among rs r m))) (
    λ r m. let z = each_among (λ s. 0 < rank s) (rest ss) (after order ss M) r m in among_rest rs r z (g r z (rest_among ss r m))))
    ∙ lead_rest ss

-- the code of the first record picked
look : (Record → Bool) → List Record → ℕ
look pick [] = 0
look pick (r ∷ rs) = cond (pick r) (code r) (look pick rs)

found : (pick : Record → Bool) (rs : List Record) → look pick rs ≢ 0 → (r : Record) × Among r rs × (pick r ≡ true) × (code r ≡ look pick rs)
unfolding look
found pick [] n = absurd (n refl)
found pick (r ∷ rs) n = go (pick r) refl n (found pick rs)
  where
    go : (b : Bool) → pick r ≡ b → cond b (code r) (look pick rs) ≢ 0 → (look pick rs ≢ 0 → (s : Record) × Among s rs × (pick s ≡ true) × (code s ≡ look pick rs))
        → (s : Record) × Among s (r ∷ rs) × (pick s ≡ true) × (code s ≡ cond b (code r) (look pick rs))
    go true e m ih = (r, Memᴰ.head refl, e, refl)
    go false e m ih = let i = ih m in (i.0, Memᴰ.tail i.1, i.2, i.3)

look_is : (pick : Record → Bool) (rs : List Record) (r : Record) → Among r rs → pick r ≡ true
    → ((s : Record) → Among s rs → pick s ≡ true → code s ≡ code r) → look pick rs ≡ code r
unfolding look
look_is pick [] r m p same = absurd (Memᴰ.not-nil m)
look_is pick (s ∷ rs) r m p same = go (pick s) refl (Memᴰ.cases_cons m) (look_is pick rs r)
  where
    go : (b : Bool) → pick s ≡ b → (r ≡ s) ⊎ Among r rs
        → (Among r rs → pick r ≡ true → ((t : Record) → Among t rs → pick t ≡ true → code t ≡ code r) → look pick rs ≡ code r) → cond b (code s) (look pick rs) ≡ code r
    go true e n ih = same s (Memᴰ.head refl) e
    go false e (inl d) ih = let z : false ≡ true = sym e ∙ ap pick (sym d) ∙ p in let y : ◌≡◌ {A = ℕ} 0 1 = cc in absurd (omega arith)
    go false e (inr n) ih = ih n p (λ t l. same t (Memᴰ.tail l))

on_at : ℕ → ℕ → Record → Bool
on_at j t r = on_from j r && eqb t (target r)

out_at : ℕ → Record → Bool
out_at t r = starts r && eqb t (target r)

no_way : {A : Type 0} → false ≡ true → A
no_way d = let z : ◌≡◌ {A = ℕ} 0 1 = cc in absurd (omega arith)

on_at_is : (j t : ℕ) (r : Record) → on_at j t r ≡ true → r ≡ on j t (code r)
unfolding on_at
on_at_is j t filler e = no_way e
on_at_is j t (cell i) e = no_way e
on_at_is j t (off f u c) e = no_way e
on_at_is j t (on f u c) e = let p = and_parts (eqb j f) (eqb t u) e in ap₂ (λ a b. on a b c) (sym (eqb-true j f p.0)) (sym (eqb-true t u p.1))
on_at_is j t (outlet u c) e = no_way e
on_at_is j t unmarked e = no_way e
on_at_is j t unclean e = no_way e

out_at_is : (t : ℕ) (r : Record) → out_at t r ≡ true → r ≡ outlet t (code r)
unfolding out_at
out_at_is t filler e = no_way e
out_at_is t (cell i) e = no_way e
out_at_is t (off f u c) e = no_way e
out_at_is t (on f u c) e = no_way e
out_at_is t (outlet u c) e = ap (λ b. outlet b c) (sym (eqb-true t u e))
out_at_is t unmarked e = no_way e
out_at_is t unclean e = no_way e

module _ (order : List ℕ) (q : ℕ) (some : 0 < q) (rs : List Record) (F : Facts order q rs) (K : Kept order rs) where
  row : ℕ → ℕ → ℕ
  row j t = look (on_at j t) rs

  out : ℕ → ℕ
  out t = look (out_at t) rs

  row_arc : (j t : ℕ) → row j t ≢ 0 → Among (on j t (row j t)) rs
  unfolding row
  row_arc j t n =
      let f = found (on_at j t) rs n in
      Memᴰ.cast (sym (on_at_is j t f.0 f.2 ∙ ap (on j t) f.3)) f.1

  arc_row : (j t c : ℕ) → Among (on j t c) rs → row j t ≡ c
  unfolding row on_at
  arc_row j t c m =
      look_is (on_at j t) rs (on j t c) m (and_from _ _ (eq-eqb j j refl) (eq-eqb t t refl)) (
      λ s l p.
      let a = among_nth rs (on j t c) m in
      let b = among_nth rs s l in
      let e = K.one_arc a.0 b.0 j t c (code s) a.2 (b.2 ∙ on_at_is j t s p) in
      ap code (sym b.2 ∙ ap (nth rs) (sym e) ∙ a.2))

  out_arc : (t : ℕ) → out t ≢ 0 → Among (outlet t (out t)) rs
  unfolding out
  out_arc t n =
      let f = found (out_at t) rs n in
      Memᴰ.cast (sym (out_at_is t f.0 f.2 ∙ ap (outlet t) f.3)) f.1

  arc_out : (t c : ℕ) → Among (outlet t c) rs → out t ≡ c
  unfolding out out_at
  arc_out t c m =
      look_is (out_at t) rs (outlet t c) m (eq-eqb t t refl) (
      λ s l p.
      let a = among_nth rs (outlet t c) m in
      let b = among_nth rs s l in
      let e = K.one_outlet a.0 b.0 t c (code s) a.2 (b.2 ∙ out_at_is t s p) in
      ap code (sym b.2 ∙ ap (nth rs) (sym e) ∙ a.2))

  fine_of : (r : Record) → Among r rs → Fine order q (declared [] rs) r
  fine_of r m = let a = among_nth rs r m in rw a.2 at (F.fine a.0)

  -- arcs lead to lower numbers
  down_of : (j t c : ℕ) → Among (on j t c) rs → t < j
  down_of j t c m =
      let a = fine_of (on j t c) m in
      elim (cases_order t j) [
        | inl e ↦ absurd (elim a.leads_later [ inl z ↦ omega (arith, a.from_cell) | inr l ↦ let k = rw e at l in omega arith ])
        | inr (inl h) ↦ h
        | inr (inr h) ↦
            absurd (elim a.leads_later [ inl z ↦ omega arith | inr l ↦ omega (arith, K.never_later j t a.from_cell h a.to_known) ])
      ]

  head : ℕ → ℕ
  head j = dite (dec_lt 0 j) (λ z. dite (dec_le j (cells_of rs)) (λ h. (K.headed j z h).0) (λ _. 0)) (λ _. 0)

  head_of : (j : ℕ) → 0 < j → j ≤ cells_of rs → Head rs j (head j)
  unfolding head
  head_of j z h =
      let e : head j ≡ (K.headed j z h).0 =
      dif_pos (dec_lt 0 j) le_prop z (λ y. dite (dec_le j (cells_of rs)) (λ l. (K.headed j y l).0) (λ _. 0)) (λ _. 0)
      ∙ dif_pos (dec_le j (cells_of rs)) le_prop h (λ l. (K.headed j z l).0) (λ _. 0) in
      rw e (K.headed j z h).1

  zero_unless : (a : ℕ) → (a ≢ 0 → ⊥) → a ≡ 0
  zero_unless a n = dec→stable (ℕ_discrete a 0) n

  small_row : (a : ℕ) → (a ≢ 0 → a < q) → a < q
  small_row zero f = some
  small_row (suc a) f = f (omega arith)

  echelon : EchelonNumbers order q (cells_of rs) (reads rs) row out head
  echelon = record {
    input = F.input_is;
    code = λ j t z h l. small_row (row j t) (λ n. (fine_of (on j t (row j t)) (row_arc j t n)).code);
    out_code = λ t h. small_row (out t) (λ n. (fine_of (outlet t (out t)) (out_arc t n)).1);
    later = λ j t h z l n. elim (fine_of (on j t (row j t)) (row_arc j t n)).leads_later [ inl e ↦ absurd (omega arith) | inr p ↦ p ];
    never_later = K.never_later;
    head_below = λ j z h. down_of j (head j) _ (head_of j z h).arc.1;
    head_one = λ j z h.
        let a = head_of j z h in arc_row j (head j) _ a.arc.1 ∙ K.head_one j (head j) _ a a.arc.1;
    before_head = λ j t z h l. zero_unless (row j t) (λ n. omega (arith, (head_of j z h).lowest t (row j t) (row_arc j t n)));
    heads_rise = λ i j z h l e. K.heads_rise i j (head i) (head j) h e (head_of i z (omega arith)) (head_of j (omega arith) l);
    heads_clear = λ i j zi hi zj hj n e l.
        zero_unless (row i (head j)) (λ m. K.heads_clear i j (head j) (row i (head j)) n e (head_of j zj hj) (row_arc i (head j) m));
  }

  same_cells : (n : ℕ) (xs : List ℕ) (g : ℕ → ℕ) → length xs ≡ n → ((j : ℕ) → j < n → g j ≡ get_or xs j 0) → (ys : List ℕ) → length ys ≡ n
      → ((j : ℕ) → j < n → get_or ys j 0 ≡ g j) → xs ≡ ys
  same_cells n [] g e f [] d h = refl
  same_cells n [] g e f (y ∷ ys) d h = absurd (omega arith)
  same_cells n (x ∷ xs) g e f [] d h = absurd (omega arith)
  same_cells zero (x ∷ xs) g e f (y ∷ ys) d h = absurd (omega arith)
  same_cells (suc n) (x ∷ xs) g e f (y ∷ ys) d h =
      ap₂ ◌∷◌ (sym (h 0 (omega arith) ∙ f 0 (omega arith))) (
      same_cells n xs (λ j. g (suc j)) (omega arith) (λ j l. f (suc j) (omega arith)) ys (omega arith) (λ j l. h (suc j) (omega arith)))

  records_are : rs ≡ diagram_records (cells_of rs) (reads rs) row out
  records_are =
      same_list order rs (diagram_records (cells_of rs) (reads rs) row out) K (kept_rs order q (cells_of rs) (reads rs) row out head echelon) (
      same_cells (cells_of rs) (declared [] rs) (λ j. reads rs (suc j)) refl (λ j l. let e : suc j - 1 ≡ j = omega arith in rw e refl) _ (
      inputs_length (reads rs) (cells_of rs)) (inputs_at (reads rs) (cells_of rs))
      ∙ sym (all_cells order q (cells_of rs) (reads rs) row out head echelon)) there_of back_of
    where
      there_of : (r : Record) → 0 < rank r → Among r rs → Among r (diagram_records (cells_of rs) (reads rs) row out)
      there_of r z m = go (plain_rank r (K.plain r m))
        where
          go : (rank r ≡ 0) ⊎ ((rank r ≡ 1) ⊎ (rank r ≡ 2)) → Among r (diagram_records (cells_of rs) (reads rs) row out)
          go (inl e) = absurd (omega arith)
          go (inr (inl e)) =
              let is = plain_on r (K.plain r m) e in
              let n : Among (on (source r) (target r) (code r)) rs = Memᴰ.cast (sym is) m in
              let a = fine_of (on (source r) (target r) (code r)) n in
              let w = arc_row (source r) (target r) (code r) n in
              let p : code r ≢ 0 = K.plain (on (source r) (target r) (code r)) n in
              Memᴰ.cast (is ∙ ap (on (source r) (target r)) (sym w)) (
              there order q (cells_of rs) (reads rs) row out head echelon (source r) (target r) a.from_cell a.from_known (down_of _ _ _ n) (λ y. p (sym w ∙ y)))
          go (inr (inr e)) =
              let is = plain_outlet r (K.plain r m) e in
              let n : Among (outlet (target r) (code r)) rs = Memᴰ.cast (sym is) m in
              let a = fine_of (outlet (target r) (code r)) n in
              let w = arc_out (target r) (code r) n in
              let p : code r ≢ 0 = K.plain (outlet (target r) (code r)) n in
              Memᴰ.cast (is ∙ ap (outlet (target r)) (sym w)) (
              there_out order q (cells_of rs) (reads rs) row out head echelon (target r) a.0 (λ y. p (sym w ∙ y)))

      back_by : (r : Record) → 0 < rank r → Shape order q (cells_of rs) (reads rs) row out head echelon r → Among r rs
      back_by filler z s = absurd s
      back_by (cell i) z s = absurd (omega arith)
      back_by (off f t c) z s = absurd s
      back_by (on j t c) z s = Memᴰ.cast (ap (on j t) s.3) (row_arc j t (λ y. s.4 (s.3 ∙ y)))
      back_by (outlet t c) z s = Memᴰ.cast (ap (outlet t) s.1) (out_arc t (λ y. s.2 (s.1 ∙ y)))
      back_by unmarked z s = absurd s
      back_by unclean z s = absurd s

      back_of : (r : Record) → 0 < rank r → Among r (diagram_records (cells_of rs) (reads rs) row out) → Among r rs
      back_of r z m = back_by r z (shape_of order q (cells_of rs) (reads rs) row out head echelon r m)

pub decoded : (order : List ℕ) (q : ℕ) → 0 < q → Order order → (bytes : List ℕ) → Patch order q bytes → Kept order (records bytes)
    → (row : ℕ → ℕ → ℕ) × (out : ℕ → ℕ) × (head : ℕ → ℕ) × EchelonNumbers order q (cells_of (records bytes)) (reads (records bytes)) row out head
    × (bytes ≡ encode (cells_of (records bytes)) (reads (records bytes)) row out)
decoded order q some o bytes p K =
    let rs : List Record = records bytes in
    let F = facts_of order q rs o p.fine in (
      row order q some rs F K,
      out order q some rs F K,
      head order q some rs F K,
      echelon order q some rs F K,
      sym (rebuilt bytes p.fours (all_real order q rs [] p.fine)) ∙ ap written (records_are order q some rs F K),
    )
