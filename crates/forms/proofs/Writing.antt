-- The bytes of a form, part by part, as the loops write them.
use Rattle.std.proofs.Common.{◌≡◌, ℕ, zero, suc, ◌+◌, ◌-◌, ◌≤◌, Bool, true, false, cond, eqb, ◌≢◌, List, [], ◌∷◌, ◌++◌, length, get_or, take, drop, set, sym, refl, ap, ◌∙◌, ap₂, arith, take_all}
use lib.Seq.{take-append-le}
use Rattle.std.proofs.lemmas.List.{append_assoc, append-nil, length-append, length-take-le, take-append-drop, drop-drop}
use borrow.Rule.Slice.PartMut.{put_mid}
use Rattle.std.proofs.lemmas.Bool.{cond-true, cond-false, eq-eqb, ne_eqb}
use Rattle.linear.specs.Sums.{fold}
use Rattle.linear.proofs.Codes.{fold_cong}
use Rattle.patch.specs.Encoding.{four, written, unless_zero, cell_records, on_records, outlet_records, diagram_records, encode}
use Rattle.patch.specs.Output.{laid, Put}
use Rattle.patch.specs.Records.{Record, on, outlet}
use Rattle.patch.proofs.Putting.{put_then, put_whole, put_length}
use Rattle.strip.specs.Row.{Row}
use Rattle.forms.specs.Forms.{cell_input, cell_bytes, arc_bytes, row_bytes}

-- one term more
pub fold_more : {K : Type 0} (z : K) (p : K → K → K) (n : ℕ) (f : ℕ → K) → fold z p (n + 1) f ≡ p (fold z p n f) (f n)
unfolding fold
fold_more z p n f = let e : n + 1 ≡ suc n = omega arith in ap (λ m. fold z p m f) e

pub written_append : (rs ss : List Record) → written (rs ++ ss) ≡ written rs ++ written ss
written_append [] ss = refl
written_append (r ∷ rs) ss = ap (◌++◌ (four r)) (written_append rs ss) ∙ sym (append_assoc (four r) (written rs) (written ss))

pub written_fold : (n : ℕ) (g : ℕ → List Record) → written (fold [] ◌++◌ n g) ≡ fold [] ◌++◌ n (λ k. written (g k))
unfolding fold
written_fold zero g = refl
written_fold (suc n) g = written_append (fold [] ◌++◌ n g) (g n) ∙ ap (λ xs. xs ++ written (g n)) (written_fold n g)

written_one : (r : Record) → written (r ∷ []) ≡ four r
written_one r = append-nil (four r)

written_unless : (c : ℕ) (r : Record) → written (unless_zero c r) ≡ cond (eqb c 0) [] (four r)
written_unless c r = go (eqb c 0)
  where
    go : (b : Bool) → written (cond b [] (r ∷ [])) ≡ cond b [] (four r)
    go true = refl
    go false = written_one r

-- the three parts
module _ (inputs : List ℕ) (rows : ℕ → Row) (out : Row) (count : ℕ) where
  cells_written : written (cell_records count (cell_input inputs) rows out) ≡ cell_bytes inputs count
  cells_written =
      written_fold count _ ∙ fold_cong [] ◌++◌ count _ _ (λ j h. let e : suc j - 1 ≡ j = omega arith in ap (λ i. 1 ∷ get_or inputs i 0 ∷ 0 ∷ 0 ∷ []) e)

  ons_written : written (on_records count (cell_input inputs) rows out) ≡ row_bytes rows count
  ons_written =
      written_fold count _ ∙ fold_cong [] ◌++◌ count _ _ (
      λ j h. written_fold (suc j) _ ∙ fold_cong [] ◌++◌ (suc j) _ _ (λ t l. written_unless (rows (suc j) t) (on (suc j) t (rows (suc j) t))))

  outlets_written : written (outlet_records count (cell_input inputs) rows out) ≡ arc_bytes 4 0 out (suc count)
  outlets_written = written_fold (suc count) _ ∙ fold_cong [] ◌++◌ (suc count) _ _ (λ t l. written_unless (out t) (outlet t (out t)))

  pub parts : encode count (cell_input inputs) rows out ≡ cell_bytes inputs count ++ (row_bytes rows count ++ arc_bytes 4 0 out (suc count))
  unfolding diagram_records
  parts =
      written_append (cell_records count (cell_input inputs) rows out) _
      ∙ ap₂ ◌++◌ cells_written (written_append (on_records count (cell_input inputs) rows out) _ ∙ ap₂ ◌++◌ ons_written outlets_written)

  -- as they are written: the outlet by its row, as it is read
  pub joined : (row : Row) → row ≡ out
      → cell_bytes inputs count ++ (row_bytes rows count ++ arc_bytes 4 0 row (count + 1)) ≡ encode count (cell_input inputs) rows out
  joined row e =
      let next : count + 1 ≡ suc count = omega arith in
      ap₂ (λ (r : Row) (n : ℕ). cell_bytes inputs count ++ (row_bytes rows count ++ arc_bytes 4 0 r n)) e next ∙ sym parts

-- one arc more, and one left out
pub arc_more : (mark from : ℕ) (row : Row) (t c : ℕ) → c ≡ row t → c ≢ 0 → arc_bytes mark from row t ++ (mark ∷ from ∷ t ∷ c ∷ []) ≡ arc_bytes mark from row (t + 1)
arc_more mark from row t c e n =
    sym (
    fold_more [] ◌++◌ t _
    ∙ ap (◌++◌ (arc_bytes mark from row t)) (cond-false _ _ _ (ne_eqb (row t) 0 (λ z. n (e ∙ z))) ∙ ap (λ x. mark ∷ from ∷ t ∷ x ∷ []) (sym e)))

pub arc_none : (mark from : ℕ) (row : Row) (t : ℕ) → row t ≡ 0 → arc_bytes mark from row t ≡ arc_bytes mark from row (t + 1)
arc_none mark from row t e = sym (fold_more [] ◌++◌ t _ ∙ ap (◌++◌ (arc_bytes mark from row t)) (cond-true _ _ _ (eq-eqb (row t) 0 e)) ∙ append-nil _)

-- four bytes, one after another
pub four_laid : (out xs : List ℕ) (at : ℕ) → length xs ≡ 4
    → set (set (set (set out at (get_or xs 0 0)) (at + 1) (get_or xs 1 0)) (at + 2) (get_or xs 2 0)) (at + 3) (get_or xs 3 0) ≡ laid out at xs
four_laid out (a ∷ b ∷ c ∷ d ∷ []) at h =
    let two : at + 2 ≡ at + 1 + 1 = omega arith in
    let three : at + 3 ≡ at + 1 + 1 + 1 = omega arith in
    ap₂ (λ i j. set (set (set (set out at a) (at + 1) b) i c) j d) two three
four_laid out (a ∷ b ∷ c ∷ d ∷ e ∷ xs) at h = absurd (omega arith)
four_laid out (a ∷ b ∷ c ∷ []) at h = absurd (omega arith)
four_laid out (a ∷ b ∷ []) at h = absurd (omega arith)
four_laid out (a ∷ []) at h = absurd (omega arith)
four_laid out [] at h = absurd (omega arith)

-- a text that was copied to a place of an output was put there
pub copied : (out text ys : List ℕ) (p n end : ℕ) → ys ≡ text → n ≡ length text → end ≡ p + length text → end ≤ length out → Put out p text (put_mid p n out ys) end
copied out text ys p n end e m f h =
    let low : length (take p out) ≡ p = length-take-le p out (omega arith) in
    let first : Put out 0 (take p out) (laid out 0 (take p out)) p = record { writes = refl; ends = omega (arith, low) } in
    let same : laid out 0 (take p out) ≡ out = put_whole out (take p out) _ p first (omega (arith, low, length-take-le p out)) ∙ ap (λ m. take p out ++ drop m out) low ∙ take-append-drop p out in
    let both : Put out 0 (take p out ++ text) (laid out p text) (p + length text) = put_then first (record { writes = ap (λ o. laid o p text) (sym same); ends = refl }) in
    let all : length (take p out ++ text) ≡ p + length text = length-append (take p out) text ∙ ap (λ m. m + length text) low in
    record {
      writes = rw e (
          ap (λ zs. take p out ++ (text ++ zs)) (ap (λ i. drop i (drop p out)) m ∙ drop-drop (length text) p out ∙ ap (λ i. drop i out) (sym all))
          ∙ sym (append_assoc (take p out) text (drop (length (take p out ++ text)) out))
          ∙ sym (put_whole out (take p out ++ text) (laid out p text) (p + length text) both (omega (arith, all))));
      ends = f;
    }

-- what was put first stands first
pub first_bytes : (out text after : List ℕ) (r : ℕ) → Put out 0 text after r → r ≤ length out → take r after ≡ text
first_bytes out text after r p h =
    let e : r ≡ length text = put_length out text after r p in
    ap (take r) (put_whole out text after r p (omega arith)) ∙ take-append-le r text (drop (length text) out) (omega arith) ∙ take_all r text (omega arith)

-- the on arcs of one cell more
pub row_more : (rows : ℕ → Row) (k : ℕ) (row : Row) → row ≡ rows (k + 1) → row_bytes rows k ++ arc_bytes 3 (k + 1) row (k + 1) ≡ row_bytes rows (k + 1)
row_more rows k row e =
    let n : k + 1 ≡ suc k = omega arith in
    ap (λ (r : Row). row_bytes rows k ++ arc_bytes 3 (k + 1) r (k + 1)) e ∙ ap (λ j. row_bytes rows k ++ arc_bytes 3 j (rows j) j) n
    ∙ sym (fold_more [] ◌++◌ k (λ j. arc_bytes 3 (suc j) (rows (suc j)) (suc j)))
