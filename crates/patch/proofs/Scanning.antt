-- One turn of the scan over a patch's records. Assumes nothing.
use Rattle.std.proofs.Common.{◌≡◌, ℕ, suc, ◌+◌, inl, inr, add-one, drop-cons, ◌-◌, ◌*◌, ◌/◌, ◌<◌, ◌≤◌, cond, ltb, List, [], ◌∷◌, ◌++◌, length, get_or, set, take, drop, Ok, Err, Result, sym, refl, ap, ◌∙◌, arith}
use Rattle.std.proofs.lemmas.Bool.{cond-true, cond-false, eq-eqb, ne_eqb, cases_lt}
use Rattle.std.proofs.lemmas.List.{length-append, take-append-drop, drop_all, length-take-le, length-drop, get_or-take, get_or-drop}
use Rattle.std.specs.List.{IsSplitAt}
use Rattle.patch.specs.declared.cells.Cells.{Cells}
use Rattle.patch.specs.declared.record.Record.{Record as Entry}
use Rattle.patch.specs.declared.record.Record.TheVariants.{Filler, Cell, Off, On, Outlet}
use Rattle.patch.specs.declared.refusal.Refusal.{Refusal}
use Rattle.patch.specs.Records.{Record, filler, records, declare, nth, Readable}
use Rattle.patch.specs.Faults.{fault, check_from, passed, refused}
use Rattle.patch.specs.Refusals.{number, place}
use Rattle.patch.specs.Judging.{meant, Holds, Says, four, Judges, told}
use Rattle.patch.proofs.Checked.{records_length, records_nth}
use Rattle.patch.proofs.Judged.{holds_none, holds_more, says_fine, says_faulty, told_is}

-- the four bytes of record k, as a program takes them
abbrev pub part : List ℕ → ℕ → List ℕ
part bytes k = take (4 * k + 4 - 4 * k) (drop (4 * k) bytes)

module _ (bytes : List ℕ) (k : ℕ) (inside : k < length bytes / 4) where
  spans : 4 * k + 4 - 4 * k ≡ 4
  spans = omega arith

  pub part_length : length (part bytes k) ≡ 4
  part_length = rw spans (length-take-le 4 (drop (4 * k) bytes) (omega (arith, length-drop (4 * k) bytes)))

  pub part_at : (j : ℕ) → j < 4 → get_or (part bytes k) j 0 ≡ get_or bytes (4 * k + j) 0
  part_at j h = rw spans (get_or-take 4 (drop (4 * k) bytes) j 0 h ∙ get_or-drop (4 * k) bytes j 0)

  part_first : get_or (part bytes k) 0 0 ≡ get_or bytes (4 * k) 0
  part_first = part_at 0 (omega arith) ∙ ap (λ m. get_or bytes m 0) (omega arith)

  pub part_read : four (part bytes k) ≡ nth (records bytes) k
  part_read = rw (part_first, part_at 1 (omega arith), part_at 2 (omega arith), part_at 3 (omega arith)) (sym (records_nth bytes k (omega (arith, records_length bytes))))

pub no_cell : (cells : List ℕ) (e : Entry) → ((i : ℕ) → e ≡ Cell i → ⊥) → declare cells (meant e) ≡ cells
no_cell cells Filler h = refl
no_cell cells (Cell i) h = absurd (h i refl)
no_cell cells (Off f t c) h = refl
no_cell cells (On f t c) h = refl
no_cell cells (Outlet t c) h = refl

-- four bytes before others are one record before the others
pub records_more : (xs rest : List ℕ) → length xs ≡ 4 → records (xs ++ rest) ≡ four xs ∷ records rest
records_more [] rest h = absurd (omega arith)
records_more (m ∷ []) rest h = absurd (omega arith)
records_more (m ∷ a ∷ []) rest h = absurd (omega arith)
records_more (m ∷ a ∷ b ∷ []) rest h = absurd (omega arith)
records_more (m ∷ a ∷ b ∷ c ∷ []) rest h = refl
records_more (m ∷ a ∷ b ∷ c ∷ d ∷ xs) rest h = absurd (omega arith)

pub records_none : (xs : List ℕ) → length xs < 4 → records xs ≡ []
records_none [] h = refl
records_none (m ∷ []) h = refl
records_none (m ∷ a ∷ []) h = refl
records_none (m ∷ a ∷ b ∷ []) h = refl
records_none (m ∷ a ∷ b ∷ c ∷ rest) h = absurd (omega arith)

-- One turn at record k, behind some cells, and what the check answers from there on: where it is told a refusal, that one; and else what it answers behind the record.
module _ (order : List ℕ) (L q k : ℕ) (cells : List ℕ) (x : Record) {r : Result Entry Refusal} (says : Says x k r (fault order L q cells x)) where
  pub stops : (rs : List Record) (e : Refusal) → r ≡ Err e → check_from order L q k cells (x ∷ rs) ≡ refused (number e) (place e)
  stops rs e p =
      let f = says_faulty e says p in cond-false _ _ _ (ne_eqb _ 0 f.2) ∙ ap (λ y. refused y k) f.0 ∙ ap (refused (number e)) (sym f.1)

  pub next_cells : (e : Entry) → r ≡ Ok e → declare cells x ≡ declare cells (meant e)
  next_cells e p = ap (declare cells) (sym (says_fine e says p).0)

  pub goes_on : (rs : List Record) (e : Entry) → r ≡ Ok e → check_from order L q (k + 1) (declare cells (meant e)) rs ≡ check_from order L q k cells (x ∷ rs)
  goes_on rs e p = ap (λ cs. check_from order L q (k + 1) cs rs) (sym (next_cells e p)) ∙ sym (cond-true _ _ _ (eq-eqb _ 0 (says_fine e says p).1))

-- where the scan of some bytes stands before record k: `s` has the cells so far, and `rest` is left
pub record Scanned (order : List ℕ) (L q : ℕ) (bytes : List ℕ) (s : Cells) (k : ℕ) (rest : List ℕ) : Type 0 where
  pub cells : List ℕ
  pub holds : Holds s cells
  pub few : s.count ≤ k
  pub left : 4 * k + length rest ≡ length bytes
  pub same : check_from order L q k cells (records rest) ≡ check_from order L q 0 [] (records bytes)

pub scan_starts : (order : List ℕ) (L q : ℕ) (bytes : List ℕ) (s : Cells) → s.count ≡ 0 → length s.inputs ≡ 256 → Scanned order L q bytes s 0 bytes
scan_starts order L q bytes s e l = record { cells = []; holds = holds_none s e l; few = omega arith; left = omega arith; same = refl }

module _ {order : List ℕ} {L q : ℕ} {bytes : List ℕ} {s : Cells} {k : ℕ} {rest : List ℕ} (S : Scanned order L q bytes s k rest) where
  pub scan_ends : length rest < 4 → check_from order L q 0 [] (records bytes) ≡ passed
  scan_ends h = sym S.same ∙ ap (check_from order L q k S.cells) (records_none rest h)

  module _ (xs more : List ℕ) (long : length xs ≡ 4) (parts : rest ≡ xs ++ more) (r : Result Entry Refusal) (judges : Judges order L q s k xs r) where
    says : Says (four xs) k r (fault order L q S.cells (four xs))
    says = judges.says S.cells S.holds

    split : check_from order L q k S.cells (four xs ∷ records more) ≡ check_from order L q 0 [] (records bytes)
    split = ap (check_from order L q k S.cells) (sym (ap records parts ∙ records_more xs more long)) ∙ S.same

    pub scan_stops : (e : Refusal) → r ≡ Err e → check_from order L q 0 [] (records bytes) ≡ refused (number e) (place e)
    scan_stops e p = sym split ∙ stops order L q k S.cells (four xs) says (records more) e p

    onward : (e : Entry) → r ≡ Ok e → check_from order L q (k + 1) (declare S.cells (meant e)) (records more) ≡ check_from order L q 0 [] (records bytes)
    onward e p = goes_on order L q k S.cells (four xs) says (records more) e p ∙ split

    behind : 4 * (k + 1) + length more ≡ length bytes
    behind = omega (arith, S.left, ap length parts, length-append xs more)

    pub scan_past : (e : Entry) → r ≡ Ok e → ((i : ℕ) → e ≡ Cell i → ⊥) → Scanned order L q bytes s (k + 1) more
    scan_past e p n = record {
      cells = S.cells;
      holds = S.holds;
      few = omega (arith, S.few);
      left = behind;
      same = ap (λ cs. check_from order L q (k + 1) cs (records more)) (sym (no_cell S.cells e n)) ∙ onward e p;
    }

    pub scan_cell : (e : Entry) (i : ℕ) (after : Cells) → r ≡ Ok e → e ≡ Cell i → after.count ≡ s.count + 1
        → after.inputs ≡ cond (ltb (s.count + 1) 256) (set s.inputs (s.count + 1) i) s.inputs → Scanned order L q bytes after (k + 1) more
    scan_cell e i after p is counts keeps = record {
      cells = S.cells ++ i ∷ [];
      holds = holds_more s after S.cells i S.holds counts keeps;
      few = omega (arith, S.few);
      left = behind;
      same = ap (λ d. check_from order L q (k + 1) (declare S.cells (meant d)) (records more)) (sym is) ∙ onward e p;
    }

-- a record of a patch, as a program reads it
pub read_at : (bytes : List ℕ) (k : ℕ) → k < length bytes / 4 → Readable (records bytes) → meant (told (part bytes k)) ≡ nth (records bytes) k
read_at bytes k inside R =
    let as_read = part_read bytes k inside in told_is (part bytes k) (part_length bytes k inside) (rw as_read (R k).0) (rw as_read (R k).1) ∙ as_read

-- a record taken off the bytes of records, and what is left of them
pub taken_off : (bytes xs rest : List ℕ) → IsSplitAt bytes 4 xs rest → Readable (records bytes) → (records bytes ≡ meant (told xs) ∷ records rest) × Readable (records rest)
taken_off bytes xs rest s R =
    let parts : bytes ≡ xs ++ rest = rw (s.1, s.2) (sym (take-append-drop 4 bytes)) in
    let split = ap records parts ∙ records_more xs rest s.3 in
    let S : Readable (four xs ∷ records rest) = rw split at R in
    (split ∙ ap (λ r. r ∷ records rest) (sym (told_is xs s.3 (S 0).0 (S 0).1)), λ k. S (suc k))

-- for a loop over the records that are left: the next one is number k
pub left_at : (rs : List Record) (k : ℕ) (r : Record) (more : List Record) → drop k rs ≡ r ∷ more → (k < length rs) × (nth rs k ≡ r) × (drop (k + 1) rs ≡ more)
left_at rs k r more e = elim (cases_lt k (length rs)) [
  | inl l ↦ let s = drop-cons rs k filler l in (l, cc, rw add-one (cc))
  | inr h ↦ let z = drop_all k rs h in absurd (cc)
]
