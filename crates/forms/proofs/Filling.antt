-- The strips of a slot, as they are read and written.
use Rattle.std.proofs.Common.{◌≡◌, ℕ, zero, suc, min, cond, eqb, ◌+◌, ◌-◌, ◌<◌, ◌≤◌, List, [], ◌∷◌, ◌++◌, map, length, get_or, take, drop, set, sym, refl, ap, ◌∙◌, subst, arith, length-set}
use borrow.Rule.Slice.PartMut.{put_mid}
use mathlib.Core.Path.{fun_ext}
use native.Mathlib.Decide.{ℕ_discrete, dec_lt}
use Rattle.std.specs.List.{between, CopiedTo, SameBelow, SameFrom}
use Rattle.std.proofs.lemmas.List.Edits.{get_or-between}
use lib.ListN.{length-map}
use Rattle.std.proofs.lemmas.List.{get_or_past, get_or_append_left, get_or-append_right, get_or-take, get_or-drop, length-append, length-take-le, length-drop}
use Rattle.elimination.specs.Arithmetic.{arithmetic, zero_in}
use Rattle.elimination.specs.Rows.{Rows, rows_in, Outside, scaled}
use Rattle.elimination.proofs.Answering.{add_answer}
use Rattle.scale.specs.Model.{ScaleModel}
use Rattle.elimination.proofs.Grids.{rows_from, rows_at, rows_read, rows_same, rows_other, set_outside}
use Rattle.std.proofs.lemmas.Bool.{cond-true, cond-false, ne_eqb, le-leb, lt-leb}
use Rattle.strip.specs.Row.{Row, zeros, Added}
use Rattle.forms.specs.Keeping.{Filled, form_rows, silent_rows}

module _ {S : Type 0} (code : S → Row) where
  -- the row of a strip of a slot, as it is read
  pub row_at : (xs : List S) (k : ℕ) (d : S) → k < length xs → Rows code xs 0 k ≡ code (get_or xs k d)
  row_at xs k d h = let e : 0 + k ≡ k = omega arith in rows_at code xs 0 k d (omega arith) ∙ ap (λ i. code (get_or xs i d)) e

  pub row_read : (xs : List S) (k : ℕ) (x : S) → k < length xs → x ≡ get_or xs k x → code x ≡ Rows code xs 0 k
  row_read xs k x h e = ap code e ∙ sym (row_at xs k x h)

  pub row_whole : (xs : List S) (k : ℕ) → Rows code xs 0 k ≡ rows_in code xs k
  row_whole xs k = let e : 0 + k ≡ k = omega arith in sym (rows_from code xs 0 k) ∙ ap (rows_in code xs) e

  -- where two lists hold the same, they have the same row
  pub row_same : (xs ys : List S) (b k c j : ℕ) → ((d : S) → get_or ys (b + k) d ≡ get_or xs (c + j) d) → b + k < length ys → c + j < length xs → Rows code ys b k ≡ Rows code xs c j
  row_same [] ys b k c j e h l = absurd (omega arith)
  row_same (x ∷ xs) ys b k c j e h l = rows_at code ys b k x h ∙ ap code (e x) ∙ sym (rows_at code (x ∷ xs) c j x l)

  pub row_past : (xs : List S) (b k : ℕ) → length xs ≤ b + k → Rows code xs b k ≡ zeros
  unfolding Rows rows_in
  row_past xs b k h = get_or_past (map code xs) (b + k) zeros (rw length-map h)

  -- the same place by another base, and in a part of the list
  pub row_moved : (xs : List S) (b k c j : ℕ) → b + k ≡ c + j → Rows code xs b k ≡ Rows code xs c j
  unfolding Rows rows_in
  row_moved xs b k c j e = ap (λ i. get_or (map code xs) i zeros) e

  pub part_long : (xs : List S) (a e : ℕ) → e ≤ length xs → length (between a e xs) ≡ e - a
  part_long xs a e h = length-take-le (e - a) (drop a xs) (omega (arith, length-drop a xs))

  pub row_part : (xs : List S) (a e j : ℕ) → a + j < e → e ≤ length xs → Rows code (between a e xs) 0 j ≡ Rows code xs a j
  row_part xs a e j l h =
      let z : 0 + j ≡ j = omega arith in
      row_same xs (between a e xs) 0 j a j (λ d. ap (λ i. get_or (between a e xs) i d) z ∙ get_or-between xs a e j d l) (omega (arith, part_long xs a e h)) (omega arith)

  pub part_read : (xs : List S) (a e j : ℕ) (x : S) → a + j < e → e ≤ length xs → x ≡ get_or (between a e xs) j x → code x ≡ Rows code xs a j
  part_read xs a e j x l h is = sym (rows_read code xs a j x (omega arith) (is ∙ get_or-between xs a e j x l))

  -- outside of what was written a list holds the same
  pub outside : (xs ys : List S) (base n : ℕ) → length ys ≡ length xs → ((i : ℕ) (d : S) → i < base → get_or ys i d ≡ get_or xs i d)
      → ((i : ℕ) (d : S) → base + n ≤ i → get_or ys i d ≡ get_or xs i d) → Outside code xs base n ys
  outside xs ys base n long low high =
      let same : (b k : ℕ) → ((d : S) → get_or ys (b + k) d ≡ get_or xs (b + k) d) → Rows code ys b k ≡ Rows code xs b k = λ b k e. elim (dec_lt (b + k) (length xs)) [
        | yes h ↦ row_same xs ys b k b k e (omega (arith, long)) h
        | no h ↦ row_past ys b k (omega (arith, long)) ∙ sym (row_past xs b k (omega arith))
      ] in
      record { before = λ b k h. same b k (λ d. low (b + k) d h); after = λ b k h. same b k (λ d. high (b + k) d h) }

  -- a part of a list was written: the rows of the part, and all else is as it was
  module _ (xs ys : List S) (a n : ℕ) (fits : a + n ≤ length xs) (long : length ys ≡ n) where
    low : length (take a xs) ≡ a
    low = length-take-le a xs (omega arith)

    before_mid : (i : ℕ) (d : S) → i < a → get_or (put_mid a n xs ys) i d ≡ get_or xs i d
    before_mid i d h = get_or_append_left (take a xs) _ d i (omega (arith, low)) ∙ get_or-take a xs i d h

    within_mid : (k : ℕ) (d : S) → k < n → get_or (put_mid a n xs ys) (a + k) d ≡ get_or ys k d
    within_mid k d h =
        let e : a + k - a ≡ k = omega arith in
        get_or-append_right (take a xs) _ a (a + k) d low (omega arith) ∙ ap (λ i. get_or (ys ++ drop n (drop a xs)) i d) e
        ∙ get_or_append_left ys (drop n (drop a xs)) d k (omega arith)

    after_mid : (i : ℕ) (d : S) → a + n ≤ i → get_or (put_mid a n xs ys) i d ≡ get_or xs i d
    after_mid i d h =
        let e : a + (n + (i - a - n)) ≡ i = omega arith in
        get_or-append_right (take a xs) _ a i d low (omega arith) ∙ get_or-append_right ys (drop n (drop a xs)) n (i - a) d long (omega arith)
        ∙ get_or-drop n (drop a xs) (i - a - n) d ∙ get_or-drop a xs (n + (i - a - n)) d ∙ ap (λ j. get_or xs j d) e

    pub mid_long : length (put_mid a n xs ys) ≡ length xs
    mid_long = omega (arith, low, length-append (take a xs) (ys ++ drop n (drop a xs)), length-append ys (drop n (drop a xs)), length-drop n (drop a xs), length-drop a xs)

    pub mid_row : (k : ℕ) → k < n → Rows code (put_mid a n xs ys) a k ≡ Rows code ys 0 k
    mid_row k h = row_same ys (put_mid a n xs ys) a k 0 k (λ d. let e : k ≡ 0 + k = omega arith in within_mid k d h ∙ ap (λ i. get_or ys i d) e) (omega (arith, mid_long)) (omega arith)

    pub mid_outside : Outside code xs a n (put_mid a n xs ys)
    mid_outside = outside xs (put_mid a n xs ys) a n mid_long before_mid after_mid

-- the rows of a form, by number
pub cell_row : (outlet : Row) (cells : ℕ) (rows : ℕ → Row) (k : ℕ) → 0 < k → k ≤ cells → form_rows outlet cells rows k ≡ rows k
cell_row outlet cells rows k z l = cond-false _ _ _ (ne_eqb k 0 (λ e. omega arith)) ∙ cond-true _ _ _ (le-leb k cells l)

pub no_cell_row : (outlet : Row) (cells : ℕ) (rows : ℕ → Row) (k : ℕ) → 0 < k → cells < k → form_rows outlet cells rows k ≡ zeros
no_cell_row outlet cells rows k z l = cond-false _ _ _ (ne_eqb k 0 (λ e. omega arith)) ∙ cond-false _ _ _ (lt-leb k cells l)

-- the first n of the 32 strips from base on have these rows, and every other strip is as it was
pub record Partly {S : Type 0} (code : S → Row) (n : ℕ) (strips : List S) (base : ℕ) (rows : ℕ → Row) (strips' : List S) : Type 0 where
  pub here : (k : ℕ) → k < n → Rows code strips' base k ≡ rows k
  pub later : (b k : ℕ) → base + n ≤ b + k → Rows code strips' b k ≡ Rows code strips b k
  pub before : (b k : ℕ) → b + k < base → Rows code strips' b k ≡ Rows code strips b k
  pub long : length strips' ≡ length strips

-- a slot has the rows of no more than 31 cells
pub most_rows : (outlet : Row) (cells : ℕ) (rows : ℕ → Row) (k : ℕ) → k < 32 → form_rows outlet (min cells 31) rows k ≡ form_rows outlet cells rows k
most_rows outlet cells rows zero l = refl
most_rows outlet cells rows (suc j) l = elim (dec_lt j cells) [
  | yes h ↦ cell_row outlet (min cells 31) rows (suc j) (omega arith) (omega arith) ∙ sym (cell_row outlet cells rows (suc j) (omega arith) (omega arith))
  | no h ↦ no_cell_row outlet (min cells 31) rows (suc j) (omega arith) (omega arith) ∙ sym (no_cell_row outlet cells rows (suc j) (omega arith) (omega arith))
]

module _ {S : Type 0} (code : S → Row) where
  pub start_row : (xs : List S) (base : ℕ) (x : S) → base < length xs → Rows code (set xs base x) base 0 ≡ code x
  start_row xs base x h = let e : base + 0 ≡ base = omega arith in ap (λ i. Rows code (set xs i x) base 0) (sym e) ∙ rows_same code xs base 0 x (omega arith)

  pub start_outside : (xs : List S) (base n : ℕ) (x : S) → 0 < n → Outside code xs base n (set xs base x)
  start_outside xs base n x z = let e : base + 0 ≡ base = omega arith in subst (λ i. Outside code xs base n (set xs i x)) e (set_outside code xs base n 0 x z)

  pub base_row : (xs : List S) (base : ℕ) (d : S) → base < length xs → Rows code xs base 0 ≡ code (get_or xs base d)
  base_row xs base d h = let e : base + 0 ≡ base = omega arith in rows_at code xs base 0 d (omega arith) ∙ ap (λ i. code (get_or xs i d)) e

  pub none_yet : (xs : List S) (base : ℕ) (rows : ℕ → Row) → Partly code 0 xs base rows xs
  none_yet xs base rows = record { here = λ k l. absurd (omega arith); later = λ b k l. refl; before = λ b k l. refl; long = refl }

  pub one_more : (n : ℕ) (xs ys : List S) (base : ℕ) (rows : ℕ → Row) (x : S) → base + n < length xs → Partly code n xs base rows ys → code x ≡ rows n
      → Partly code (n + 1) xs base rows (set ys (base + n) x)
  one_more n xs ys base rows x h p e =
      let room : base + n < length ys = omega (arith, p.long) in
      let out : Outside code ys base (n + 1) (set ys (base + n) x) = set_outside code ys base (n + 1) n x (omega arith) in
      record {
        here = λ k l. elim (ℕ_discrete k n) [
          | yes s ↦ rw s (rows_same code ys base n x room ∙ e)
          | no m ↦ rows_other code ys base n k x m ∙ p.here k (omega arith)
        ];
        later = λ b k l. out.after b k (omega arith) ∙ p.later b k (omega arith);
        before = λ b k l. out.before b k l ∙ p.before b k l;
        long = length-set ys (base + n) x ∙ p.long;
      }

  -- the first strip is set before the rest is filled
  pub first_set : (xs : List S) (base : ℕ) (rows : ℕ → Row) → Rows code xs base 0 ≡ rows 0 → Partly code 1 xs base rows xs
  first_set xs base rows e =
      record {
        here = λ k l. let z : k ≡ 0 = omega arith in rw z e;
        later = λ b k l. refl;
        before = λ b k l. refl;
        long = refl;
      }

  pub from_first : (n : ℕ) (xs ys : List S) (base : ℕ) (rows : ℕ → Row) (x : S) → 0 < n → Partly code n (set xs base x) base rows ys → Partly code n xs base rows ys
  from_first n xs ys base rows x z p =
      let out : Outside code xs base n (set xs base x) = start_outside xs base n x z in
      record {
        here = p.here;
        later = λ b k l. p.later b k l ∙ out.after b k l;
        before = λ b k l. p.before b k l ∙ out.before b k l;
        long = p.long ∙ length-set xs base x;
      }

  pub all_filled : (n : ℕ) (xs ys : List S) (base : ℕ) (rows : ℕ → Row) → n ≡ 32 → Partly code n xs base rows ys → Filled code xs base rows ys
  all_filled n xs ys base rows e p =
      record {
        here = λ k l. p.here k (omega arith);
        outside = record { before = p.before; after = λ b k l. p.later b k (omega arith) };
        long = p.long;
      }

  -- 32 strips were made blank
  pub blank_filled : (xs ys : List S) → 32 ≤ length xs → length ys ≡ 32 → ((h : ℕ) → h < length ys → rows_in code ys h ≡ zeros) → Filled code xs 0 silent_rows (put_mid 0 32 xs ys)
  blank_filled xs ys h long blank = record {
    here = λ k l. mid_row code xs ys 0 32 (omega arith) long k l ∙ row_whole code ys k ∙ blank k (omega arith);
    outside = mid_outside code xs ys 0 32 (omega arith) long;
    long = mid_long code xs ys 0 32 (omega arith) long;
  }

  -- 32 strips were copied to another place of their list
  pub strips_copied : (xs ys : List S) (from to : ℕ) → from + 32 ≤ length xs → to + 32 ≤ length xs → length ys ≡ length xs
      → CopiedTo xs ys from to 32 → SameBelow xs ys to → SameFrom xs ys (to + 32) → Filled code xs to (Rows code xs from) ys
  strips_copied xs ys from to h l long copied low high =
      record {
        here = λ k b. row_same code xs ys to k from k (
            λ d. let e : from + (to + k - to) ≡ from + k = omega arith in copied (to + k) d (omega arith) (omega arith) ∙ ap (λ i. get_or xs i d) e) (omega (arith, long)) (omega arith);
        outside = outside code xs ys to 32 long low high;
        long = long;
      }

  -- then the outlet is set anew
  pub outlet_set : (xs ys : List S) (base : ℕ) (rows : ℕ → Row) (o : S) (row : Row) → base + 32 ≤ length xs → Filled code xs base rows ys → code o ≡ row
      → Filled code xs base (λ k. cond (eqb k 0) row (rows k)) (set ys base o)
  outlet_set xs ys base rows o row h f e =
      let out : Outside code ys base 1 (set ys base o) = start_outside ys base 1 o (omega arith) in
      record {
        here = λ k l. elim (ℕ_discrete k 0) [
          | yes z ↦ rw z (start_row ys base o (omega (arith, f.long)) ∙ e)
          | no n ↦ out.after base k (omega arith) ∙ f.here k l ∙ sym (cond-false _ _ _ (ne_eqb k 0 n))
        ];
        outside = record { before = λ b k l. out.before b k l ∙ f.outside.before b k l; after = λ b k l. out.after b k (omega arith) ∙ f.outside.after b k l };
        long = length-set ys base o ∙ f.long;
      }

  -- the same by rows that are equal
  pub same_rows : (xs ys : List S) (base : ℕ) (rows rows' : ℕ → Row) → ((k : ℕ) → k < 32 → rows k ≡ rows' k) → Filled code xs base rows ys → Filled code xs base rows' ys
  same_rows xs ys base rows rows' e f = record { here = λ k l. f.here k l ∙ e k l; outside = f.outside; long = f.long }

  -- the outlet is set, the rows of the cells are copied from the working strips, and the strips behind them are made blank
  module _ (xs work mid : List S) (o : S) (cells : ℕ) (few : cells ≤ 31) (room : 512 ≤ length work) (wide : 32 ≤ length xs) (is : mid ≡ between 289 (289 + cells) work) where
    abbrev one : List S
    one = set xs 0 o

    abbrev two : List S
    two = put_mid 1 cells one mid

    outlet_out : Outside code xs 0 32 one
    outlet_out = start_outside xs 0 32 o (omega arith)

    long : length mid ≡ cells
    long = ap length is ∙ part_long code work 289 (289 + cells) (omega arith) ∙ omega arith

    cells_fit : 1 + cells ≤ length one
    cells_fit = omega (arith, length-set xs 0 o)

    two_long : length two ≡ length xs
    two_long = mid_long code one mid 1 cells cells_fit long ∙ length-set xs 0 o

    cells_out : Outside code one 1 cells two
    cells_out = mid_outside code one mid 1 cells cells_fit long

    -- the row of cell suc j
    cell_copied : (j : ℕ) → j < cells → Rows code two 0 (suc j) ≡ Rows code work 288 (suc j)
    cell_copied j h =
        row_moved code two 0 (suc j) 1 j (omega arith) ∙ mid_row code one mid 1 cells cells_fit long j h
        ∙ ap (λ zs. Rows code zs 0 j) is ∙ row_part code work 289 (289 + cells) j (omega arith) (omega arith) ∙ row_moved code work 289 j 288 (suc j) (omega arith)

    module _ (none : List S) (same : length none ≡ length (between (cells + 1) 32 two)) (blank : (h : ℕ) → h < length none → rows_in code none h ≡ zeros) where
      abbrev left : ℕ
      left = 32 - (cells + 1)

      abbrev three : List S
      three = put_mid (cells + 1) left two none

      left_long : length none ≡ left
      left_long = same ∙ part_long code two (cells + 1) 32 (omega (arith, two_long))

      left_fits : cells + 1 + left ≤ length two
      left_fits = omega (arith, two_long)

      left_out : Outside code two (cells + 1) left three
      left_out = mid_outside code two none (cells + 1) left left_fits left_long

      row_is : (k : ℕ) → k < 32 → Rows code three 0 k ≡ form_rows (code o) cells (Rows code work 288) k
      row_is zero l = left_out.before 0 0 (omega arith) ∙ cells_out.before 0 0 (omega arith) ∙ start_row xs 0 o (omega arith)
      row_is (suc j) l = elim (dec_lt j cells) [
        | yes h ↦ left_out.before 0 (suc j) (omega arith) ∙ cell_copied j h ∙ sym (cell_row (code o) cells (Rows code work 288) (suc j) (omega arith) (omega arith))
        | no h ↦
            row_moved code three 0 (suc j) (cells + 1) (j - cells) (omega arith) ∙ mid_row code two none (cells + 1) left left_fits left_long (j - cells) (omega arith)
            ∙ row_whole code none (j - cells) ∙ blank (j - cells) (omega (arith, left_long)) ∙ sym (no_cell_row (code o) cells (Rows code work 288) (suc j) (omega arith) (omega arith))
      ]

      pub form_kept : Filled code xs 0 (form_rows (code o) cells (Rows code work 288)) three
      form_kept = record {
        here = row_is;
        outside = record {
          before = λ b k l. absurd (omega arith);
          after = λ b k l. left_out.after b k (omega arith) ∙ cells_out.after b k (omega arith) ∙ outlet_out.after b k l;
        };
        long = mid_long code two none (cells + 1) left left_fits left_long ∙ two_long;
      }

-- a multiple added to a blank row is that multiple
pub weighed_row : (M : ScaleModel) (f : Row) (c : ℕ) (t g : Row) → f ≡ zeros → ((p : ℕ) → t p < M.q) → Added M f c t g → g ≡ scaled (arithmetic M) c t
weighed_row M f c t g e ht a =
    add_answer M f c t g (λ p. let z : f p ≡ 0 = ap (λ (r : Row). r p) e in rw z (zero_in M)) ht a
    ∙ fun_ext (λ p. ap (λ (r : Row). (arithmetic M).plus (r p) ((arithmetic M).times c (t p))) e ∙ (arithmetic M).plus_zero _ ((arithmetic M).times_code c (t p)))
