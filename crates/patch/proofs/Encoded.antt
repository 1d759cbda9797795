-- The encoding of a diagram in echelon form is a patch that keeps the order and the first four conditions. Assumes nothing.
use Rattle.std.proofs.Common.{◌≡◌, ℕ, zero, suc, ◌-◌, ◌%◌, ◌<◌, ◌≤◌, ◌≢◌, ◌⊎◌, List, [], ◌∷◌, ◌++◌, length, get_or, sym, refl, ap, ◌∙◌, inl, inr, arith, length-append}
use mathlib.Core.List.Memᴰ
use native.Mathlib.Decide.{ℕ_discrete}
use lib.ListN.{get_or-append}
use Rattle.std.proofs.lemmas.Bool.{cases_lt, cases_order}
use Rattle.linear.specs.Sums.{fold}
use Rattle.patch.specs.Records.{Record, filler, cell, off, on, outlet, unmarked, unclean, records, declare, declared, input, nth, reads, cells_of}
use Rattle.patch.specs.Faults.{Order, Later, Fine, AllFine, Patch}
use Rattle.patch.specs.Paths.{target, Among}
use Rattle.patch.specs.Settled.{Plain, rank, source, Precedes, Head, Kept}
use Rattle.patch.specs.Encoding.{written, unless_zero, cell_records, on_records, outlet_records, diagram_records, encode, EchelonNumbers}
use Rattle.patch.proofs.Facts.{inside}
use Rattle.patch.proofs.Held.{Small, written_held}
use Rattle.patch.proofs.Gather.{gather_mem}
use Rattle.patch.proofs.Each.{Each, each_append, each_map, each_gather, each_unless, each_among, among_unless, Pairs, pairs_append, pairs_gather, pairs_unless, pairs_nth}

-- records that have bytes
abbrev pub Real : Record → Type 0
Real filler = Unit
Real (cell i) = Unit
Real (off f t c) = Unit
Real (on f t c) = Unit
Real (outlet t c) = Unit
Real unmarked = ⊥
Real unclean = ⊥

pub read_back : (rs : List Record) → Each Real rs → records (written rs) ≡ rs
read_back [] a = refl
read_back (filler ∷ rs) a = ap (◌∷◌ filler) (read_back rs a.1)
read_back (cell i ∷ rs) a = ap (◌∷◌ (cell i)) (read_back rs a.1)
read_back (off f t c ∷ rs) a = ap (◌∷◌ (off f t c)) (read_back rs a.1)
read_back (on f t c ∷ rs) a = ap (◌∷◌ (on f t c)) (read_back rs a.1)
read_back (outlet t c ∷ rs) a = ap (◌∷◌ (outlet t c)) (read_back rs a.1)
read_back (unmarked ∷ rs) a = absurd a.0
read_back (unclean ∷ rs) a = absurd a.0

in_fours : (rs : List Record) → Each Real rs → length (written rs) % 4 ≡ 0
in_fours [] a = refl
in_fours (filler ∷ rs) a = omega (arith, in_fours rs a.1)
in_fours (cell i ∷ rs) a = omega (arith, in_fours rs a.1)
in_fours (off f t c ∷ rs) a = omega (arith, in_fours rs a.1)
in_fours (on f t c ∷ rs) a = omega (arith, in_fours rs a.1)
in_fours (outlet t c ∷ rs) a = omega (arith, in_fours rs a.1)
in_fours (unmarked ∷ rs) a = absurd a.0
in_fours (unclean ∷ rs) a = absurd a.0

declared_append : (rs ss : List Record) (cells : List ℕ) → declared cells (rs ++ ss) ≡ declared (declared cells rs) ss
declared_append [] ss cells = refl
declared_append (r ∷ rs) ss cells = declared_append rs ss (declare cells r)

declared_still : (cells : List ℕ) (rs : List Record) → Each (λ r. declare cells r ≡ cells) rs → declared cells rs ≡ cells
declared_still cells [] a = refl
declared_still cells (r ∷ rs) a = rw a.0 (declared_still cells rs a.1)

module _ (order : List ℕ) (q : ℕ) where
  fine_append : (rs ss : List Record) (cells : List ℕ) → AllFine order q cells rs → AllFine order q (declared cells rs) ss → AllFine order q cells (rs ++ ss)
  fine_append [] ss cells a b = b
  fine_append (r ∷ rs) ss cells a b = (a.0, fine_append rs ss (declare cells r) a.1 b)

  fine_still : (cells : List ℕ) (rs : List Record) → Each (λ r. Fine order q cells r × (declare cells r ≡ cells)) rs → AllFine order q cells rs
  fine_still cells [] a = tt
  fine_still cells (r ∷ rs) a = (a.0.0, rw a.0.1 (fine_still cells rs a.1))

-- the inputs of n cells
module _ (inp : ℕ → ℕ) where
  pub inputs : ℕ → List ℕ
  inputs n = fold [] ◌++◌ n (λ j. inp (suc j) ∷ [])

  made : ℕ → List Record
  made n = fold [] ◌++◌ n (λ j. cell (inp (suc j)) ∷ [])

  declared_made : (n : ℕ) → declared [] (made n) ≡ inputs n
  unfolding made inputs fold
  declared_made zero = refl
  declared_made (suc n) = declared_append (made n) (cell (inp (suc n)) ∷ []) [] ∙ ap (λ (cs : List ℕ). cs ++ inp (suc n) ∷ []) (declared_made n)

  pub inputs_length : (n : ℕ) → length (inputs n) ≡ n
  unfolding inputs fold
  inputs_length zero = refl
  inputs_length (suc n) = length-append (inputs n) (inp (suc n) ∷ []) ∙ omega (arith, inputs_length n)

  last_at : (xs : List ℕ) (a n : ℕ) → length xs ≡ n → get_or (xs ++ a ∷ []) n 0 ≡ a
  last_at [] a zero e = refl
  last_at [] a (suc n) e = absurd (omega arith)
  last_at (x ∷ xs) a zero e = absurd (omega arith)
  last_at (x ∷ xs) a (suc n) e = last_at xs a n (omega arith)

  pub inputs_at : (n j : ℕ) → j < n → get_or (inputs n) j 0 ≡ inp (suc j)
  unfolding inputs fold
  inputs_at zero j h = absurd (omega arith)
  inputs_at (suc n) j h =
      elim (ℕ_discrete j n) [
        | yes e ↦ rw e (last_at (inputs n) (inp (suc n)) n (inputs_length n))
        | no e ↦ get_or-append (inputs n) (inp (suc n) ∷ []) 0 j (omega (arith, inputs_length n)) ∙ inputs_at n j (omega arith)
      ]

  input_at : (n t : ℕ) → 0 < t → t ≤ n → input (inputs n) t ≡ inp t
  input_at n zero z h = absurd (omega arith)
  input_at n (suc t) z h = let e : suc t - 1 ≡ t = omega arith in rw e (inputs_at n t (omega arith))

-- one record before another, strictly among arcs
Before : Record → Record → Type 0
Before r s = (rank r < rank s) ⊎ ((rank r ≡ rank s) × ((rank r ≡ 0) ⊎ ((source r < source s) ⊎ ((source r ≡ source s) × (target r < target s)))))

module _ (order : List ℕ) (q k : ℕ) (inp : ℕ → ℕ) (row : ℕ → ℕ → ℕ) (out head : ℕ → ℕ) (H : EchelonNumbers order q k inp row out head) where
  abbrev rs : List Record
  rs = diagram_records k inp row out

  -- what each record is
  abbrev pub Shape : Record → Type 0
  Shape filler = ⊥
  Shape (cell i) = Unit
  Shape (off f t c) = ⊥
  Shape (on j t c) = (0 < j) × (j ≤ k) × (t < j) × (c ≡ row j t) × (c ≢ 0)
  Shape (outlet t c) = (t ≤ k) × (c ≡ out t) × (c ≢ 0)
  Shape unmarked = ⊥
  Shape unclean = ⊥

  on_shapes : Each Shape (on_records k inp row out)
  on_shapes =
      each_gather Shape k _ (
      λ j h. each_gather Shape (suc j) _ (λ t l. each_unless Shape (row (suc j) t) _ (λ n. (omega arith, omega arith, l, refl, n))))

  outlet_shapes : Each Shape (outlet_records k inp row out)
  outlet_shapes = each_gather Shape (suc k) _ (λ t l. each_unless Shape (out t) _ (λ n. (omega arith, refl, n)))

  cell_shapes : Each Shape (cell_records k inp row out)
  cell_shapes = each_gather Shape k _ (λ j h. (tt, tt))

  shapes : Each Shape rs
  unfolding diagram_records
  shapes = each_append Shape (cell_records k inp row out) _ cell_shapes (each_append Shape (on_records k inp row out) _ on_shapes outlet_shapes)

  shape_real : (r : Record) → Shape r → Real r
  shape_real filler s = tt
  shape_real (cell i) s = tt
  shape_real (off f t c) s = tt
  shape_real (on f t c) s = tt
  shape_real (outlet t c) s = tt
  shape_real unmarked s = s
  shape_real unclean s = s

  shape_plain : (r : Record) → Shape r → Plain r
  shape_plain filler s = s
  shape_plain (cell i) s = tt
  shape_plain (off f t c) s = s
  shape_plain (on f t c) s = s.4
  shape_plain (outlet t c) s = s.2
  shape_plain unmarked s = s
  shape_plain unclean s = s

  reals : Each Real rs
  reals = each_map Shape Real shape_real rs shapes

  pub back : records (encode k inp row out) ≡ rs
  back = read_back rs reals

  -- the cells
  leads : (j t c : ℕ) → Shape (on j t c) → Later order (inputs inp k) j t
  leads j zero c s = inl refl
  leads j (suc t) c s =
      inr (rw (input_at inp k j s.0 s.1, input_at inp k (suc t) (omega arith) (omega (arith, s.1, s.2))) (
      H.later j (suc t) s.1 (omega arith) s.2 (λ z. s.4 (s.3 ∙ z))))

  Arcs : Record → Type 0
  Arcs r = Fine order q (inputs inp k) r × (declare (inputs inp k) r ≡ inputs inp k)

  on_arcs : Each Arcs (on_records k inp row out)
  unfolding Arcs
  on_arcs =
      each_gather Arcs k _ (
      λ j h.
      each_gather Arcs (suc j) _ (
      λ t l.
      each_unless Arcs (row (suc j) t) _ (
      λ n. (
        record {
          from_cell = omega arith;
          from_known = omega (arith, inputs_length inp k);
          to_known = omega (arith, inputs_length inp k);
          leads_later = leads (suc j) t (row (suc j) t) (omega arith, omega arith, l, refl, n);
          code = H.code (suc j) t (omega arith) (omega arith) l;
        },
        refl,
      ))))

  outlet_arcs : Each Arcs (outlet_records k inp row out)
  unfolding Arcs
  outlet_arcs =
      each_gather Arcs (suc k) _ (λ t l. each_unless Arcs (out t) _ (λ n. ((omega (arith, inputs_length inp k), H.out_code t (omega arith)), refl)))

  arcs : Each Arcs (on_records k inp row out ++ outlet_records k inp row out)
  arcs = each_append Arcs (on_records k inp row out) _ on_arcs outlet_arcs

  arcs_still : (r : Record) → Arcs r → declare (inputs inp k) r ≡ inputs inp k
  unfolding Arcs
  arcs_still r a = a.1

  pub all_cells : declared [] rs ≡ inputs inp k
  unfolding diagram_records made
  all_cells =
      declared_append (cell_records k inp row out) _ []
      ∙ ap (λ (cs : List ℕ). declared cs (on_records k inp row out ++ outlet_records k inp row out)) (declared_made inp k)
      ∙ declared_still (inputs inp k) _ (each_map Arcs (λ r. declare (inputs inp k) r ≡ inputs inp k) arcs_still _ arcs)

  cells_fine : (n : ℕ) → n ≤ k → AllFine order q [] (made inp n)
  unfolding made fold
  cells_fine zero h = tt
  cells_fine (suc n) h =
      fine_append order q (made inp n) _ [] (cells_fine n (omega arith)) (H.input (suc n) (omega arith) h, tt)

  pub rs_fine : AllFine order q [] rs
  unfolding diagram_records made Arcs
  rs_fine =
      fine_append order q (cell_records k inp row out) _ [] (cells_fine k (omega arith)) (rw (declared_made inp k) (fine_still order q (inputs inp k) _ arcs))

  smalls : Order order → k < 256 → q ≤ 256 → Each Small rs
  unfolding diagram_records
  smalls o few codes =
      each_append Small (cell_records k inp row out) _ (
      each_gather Small k _ (λ j h. (omega (arith, o.few, H.input (suc j) (omega arith) (omega arith)), tt))) (
      each_append Small (on_records k inp row out) _ (
      each_gather Small k _ (
      λ j h.
      each_gather Small (suc j) _ (
      λ t l. each_unless Small (row (suc j) t) _ (λ n. (omega arith, omega arith, omega (arith, H.code (suc j) t (omega arith) (omega arith) l)))))) (
      each_gather Small (suc k) _ (λ t l. each_unless Small (out t) _ (λ n. (omega arith, omega (arith, H.out_code t (omega arith)))))))

  pub is_patch : Order order → k < 256 → q ≤ 256 → Patch order q (encode k inp row out)
  is_patch o few codes = record { held = written_held rs (smalls o few codes); fours = in_fours rs reals; fine = rw back rs_fine }

  pub count_is : cells_of rs ≡ k
  count_is = ap length all_cells ∙ inputs_length inp k

  pub reads_is : (j : ℕ) → 0 < j → j ≤ k → reads rs j ≡ inp j
  reads_is j z h = ap (λ (cs : List ℕ). input cs j) all_cells ∙ input_at inp k j z h

  -- the order
  ons_before : Pairs Before (on_records k inp row out)
  unfolding Before
  ons_before =
      pairs_gather Before k _ (
      λ j h.
      pairs_gather Before (suc j) _ (λ t l. pairs_unless Before (row (suc j) t) _) (
      λ t u l m.
      each_unless _ (row (suc j) t) _ (
      λ n. each_unless _ (row (suc j) u) _ (λ o. inr (refl, inr (inr (refl, l)))))))
      (
      λ i j h l.
      each_gather _ (suc i) _ (
      λ t m.
      each_unless _ (row (suc i) t) _ (
      λ n. each_gather _ (suc j) _ (λ u o. each_unless _ (row (suc j) u) _ (λ p. inr (refl, inr (inl (omega arith)))))))
      )

  outlets_before : Pairs Before (outlet_records k inp row out)
  unfolding Before
  outlets_before =
      pairs_gather Before (suc k) _ (λ t l. pairs_unless Before (out t) _) (
      λ t u l m. each_unless _ (out t) _ (λ n. each_unless _ (out u) _ (λ o. inr (refl, inr (inr (refl, l))))))

  cells_before : Pairs Before (cell_records k inp row out)
  unfolding Before
  cells_before = pairs_gather Before k _ (λ j h. (tt, tt)) (λ i j h l. ((inr (refl, inl refl), tt), tt))

  all_before : Pairs Before rs
  unfolding diagram_records Before
  all_before =
      pairs_append Before (cell_records k inp row out) _ cells_before (
      pairs_append Before (on_records k inp row out) _ ons_before outlets_before (
      each_gather _ k _ (
      λ j h.
      each_gather _ (suc j) _ (
      λ t l. each_unless _ (row (suc j) t) _ (λ n. each_gather _ (suc k) _ (λ u m. each_unless _ (out u) _ (λ o. inl (omega arith)))))))) (
      each_gather _ k _ (
      λ j h. (
        each_append _ (on_records k inp row out) _ (
            each_gather _ k _ (λ i l. each_gather _ (suc i) _ (λ t m. each_unless _ (row (suc i) t) _ (λ n. inl (omega arith))))) (
            each_gather _ (suc k) _ (λ u m. each_unless _ (out u) _ (λ o. inl (omega arith)))),
        tt,
      )))

  -- a cell record has no ends
  no_ends : (r : Record) → rank r ≡ 0 → (source r ≡ 0) × (target r ≡ 0)
  no_ends filler e = (refl, refl)
  no_ends (cell i) e = (refl, refl)
  no_ends (off f t c) e = absurd (omega arith)
  no_ends (on f t c) e = absurd (omega arith)
  no_ends (outlet t c) e = absurd (omega arith)
  no_ends unmarked e = (refl, refl)
  no_ends unclean e = (refl, refl)

  before_precedes : (r s : Record) → Before r s → Precedes r s
  unfolding Before
  before_precedes r s (inl h) = inl h
  before_precedes r s (inr (e, inl z)) =
      let a = no_ends r z in
      let b = no_ends s (sym e ∙ z) in inr (e, inr (a.0 ∙ sym b.0, omega (arith, a.1, b.1)))
  before_precedes r s (inr (e, inr (inl h))) = inr (e, inl h)
  before_precedes r s (inr (e, inr (inr h))) = inr (e, inr (h.0, omega (arith, h.1)))

  not_same_on : (f t c d : ℕ) → Before (on f t c) (on f t d) → ⊥
  unfolding Before
  not_same_on f t c d (inl h) = omega arith
  not_same_on f t c d (inr (e, inl z)) = omega arith
  not_same_on f t c d (inr (e, inr (inl h))) = omega arith
  not_same_on f t c d (inr (e, inr (inr h))) = omega (arith, h.1)

  not_same_outlet : (t c d : ℕ) → Before (outlet t c) (outlet t d) → ⊥
  unfolding Before
  not_same_outlet t c d (inl h) = omega arith
  not_same_outlet t c d (inr (e, inl z)) = omega arith
  not_same_outlet t c d (inr (e, inr (inl h))) = omega arith
  not_same_outlet t c d (inr (e, inr (inr h))) = omega (arith, h.1)

  before_at : (i j : ℕ) (r s : Record) → i < j → nth rs i ≡ r → nth rs j ≡ s → s ≢ filler → Before r s
  before_at i j r s h e d n = rw (← e, ← d) (pairs_nth Before rs i j h (inside rs j s d n) all_before)

  real_on : {f t c : ℕ} → on f t c ≢ filler
  real_on e = let z : ◌≡◌ {A = ℕ} 0 1 = cc in omega arith

  real_outlet : {t c : ℕ} → outlet t c ≢ filler
  real_outlet e = let z : ◌≡◌ {A = ℕ} 0 1 = cc in omega arith

  pub shape_of : (r : Record) → Among r rs → Shape r
  shape_of r m = each_among Shape rs shapes r m

  pub there : (j t : ℕ) → 0 < j → j ≤ k → t < j → row j t ≢ 0 → Among (on j t (row j t)) rs
  unfolding diagram_records
  there zero t z h l n = absurd (omega arith)
  there (suc j) t z h l n =
      Memᴰ.append_right (cell_records k inp row out) (
      Memᴰ.append_left (outlet_records k inp row out) (
      gather_mem (λ i. fold [] ◌++◌ (suc i) (λ u. unless_zero (row (suc i) u) (on (suc i) u (row (suc i) u)))) k j _ (omega arith) (
      gather_mem (λ u. unless_zero (row (suc j) u) (on (suc j) u (row (suc j) u))) (suc j) t _ l (among_unless (row (suc j) t) _ n))))

  pub there_out : (t : ℕ) → t ≤ k → out t ≢ 0 → Among (outlet t (out t)) rs
  unfolding diagram_records
  there_out t h n =
      Memᴰ.append_right (cell_records k inp row out) (
      Memᴰ.append_right (on_records k inp row out) (
      gather_mem (λ u. unless_zero (out u) (outlet u (out u))) (suc k) t _ (omega arith) (among_unless (out t) _ n)))

  -- the head of a row is the head of its cell
  not_under : (j t c : ℕ) → Among (on j t c) rs → head j ≤ t
  not_under j t c m =
      let s = shape_of (on j t c) m in
      elim (cases_lt t (head j)) [ inl h ↦ absurd (s.4 (s.3 ∙ H.before_head j t s.0 s.1 h)) | inr h ↦ h ]

  head_there : (j : ℕ) → 0 < j → j ≤ k → Among (on j (head j) (row j (head j))) rs
  head_there j z h = there j (head j) z h (H.head_below j z h) (λ e. omega (arith, H.head_one j z h))

  the_head : (j : ℕ) → 0 < j → j ≤ k → Head rs j (head j)
  the_head j z h = record { arc = (row j (head j), head_there j z h); lowest = not_under j }

  head_is : (j h : ℕ) → Head rs j h → (0 < j) × (j ≤ k) × (h ≡ head j)
  head_is j h a =
      let s = shape_of (on j h a.arc.0) a.arc.1 in
      let u = not_under j h a.arc.0 a.arc.1 in
      let v = a.lowest (head j) (row j (head j)) (head_there j s.0 s.1) in (s.0, s.1, omega arith)

  same_input : (i j : ℕ) → 0 < i → i ≤ k → 0 < j → j ≤ k → reads rs i ≡ reads rs j → inp i ≡ inp j
  same_input i j a b c d e = sym (reads_is i a b) ∙ e ∙ reads_is j c d

  pub kept_rs : Kept order rs
  kept_rs = record {
    ordered = λ i j h l. before_precedes _ _ (pairs_nth Before rs i j h l all_before);
    plain = λ r m. shape_plain r (shape_of r m);
    one_arc = λ i j f t c d e g.
        elim (cases_order i j) [
          | inl s ↦ s
          | inr (inl h) ↦ absurd (not_same_on f t c d (before_at i j _ _ h e g real_on))
          | inr (inr h) ↦ absurd (not_same_on f t d c (before_at j i _ _ h g e real_on))
        ];
    one_outlet = λ i j t c d e g.
        elim (cases_order i j) [
          | inl s ↦ s
          | inr (inl h) ↦ absurd (not_same_outlet t c d (before_at i j _ _ h e g real_outlet))
          | inr (inr h) ↦ absurd (not_same_outlet t d c (before_at j i _ _ h g e real_outlet))
        ];
    never_later = λ i j z h l.
        let c : j ≤ k = omega (arith, count_is) in
        rw (reads_is i z (omega arith), reads_is j (omega arith) c) (H.never_later i j z h c);
    headed = λ j z h. (head j, the_head j z (omega (arith, count_is)));
    head_one = λ j h c a m.
        let i = head_is j h a in
        let s = shape_of (on j h c) m in s.3 ∙ ap (row j) i.2 ∙ H.head_one j i.0 i.1;
    heads_rise = λ i j h g l e a b.
        let c = head_is i h a in
        let d = head_is j g b in omega (arith, c.2, d.2, H.heads_rise i j c.0 l d.1 (same_input i j c.0 c.1 d.0 d.1 e));
    heads_clear = λ i j h c n e a m.
        let d = head_is j h a in
        let s = shape_of (on i h c) m in
        let l : head j < i = omega (arith, d.2, s.2) in
        s.4 (s.3 ∙ ap (row i) d.2 ∙ H.heads_clear i j s.0 s.1 d.0 d.1 n (same_input i j s.0 s.1 d.0 d.1 e) l);
  }

  pub keeps : Kept order (records (encode k inp row out))
  keeps = rw back kept_rs
