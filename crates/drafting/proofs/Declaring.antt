-- The cells that the first records of a patch declare, the list of their positions, and the codes of records.
use Rattle.std.proofs.Common.{◌≡◌, ℕ, zero, suc, ◌+◌, ◌<◌, ◌≤◌, List, [], ◌∷◌, ◌++◌, length, get_or, take, set, sym, refl, ap, ◌∙◌, subst, inl, inr, arith, length-append, get_or-set_other, get_or-set_same}
use Rattle.std.proofs.lemmas.List.{get_or_append_left, get_or-append-add}
use Rattle.std.proofs.lemmas.Bool.{cases_eq}
use Rattle.patch.specs.Admitted.{Admitted}
use Rattle.patch.specs.Faults.{position}
use Rattle.patch.specs.Judging.{meant}
use Rattle.patch.specs.Orders.{listed}
use Rattle.patch.specs.Paths.{code}
use Rattle.patch.specs.Records.{Record, cell, records, declare, declared, nth}
use Rattle.patch.specs.declared.order.ScanOrder.{ScanOrder}
use Rattle.patch.specs.declared.record.Record.{Record as Entry}
use Rattle.patch.specs.declared.record.Record.TheVariants.{Cell}
use Rattle.patch.proofs.Admitting.{admitted_cells, admitted_patch}
use Rattle.patch.proofs.Checked.{declared_more, declared_take}
use Rattle.patch.proofs.Facts.{facts}
use Rattle.patch.proofs.Numbers.{code_small}
use Rattle.patch.proofs.Orders.{lawful}
use Rattle.patch.proofs.Scanning.{no_cell}
use Rattle.drafting.specs.Arcs.{Positions}

-- no more than all records declare
pub declared_first : (rs : List Record) (cells : List ℕ) (k : ℕ) → length (declared cells (take k rs)) ≤ length (declared cells rs)
declared_first [] cells zero = omega arith
declared_first [] cells (suc k) = omega arith
declared_first (r ∷ rs) cells zero = declared_more (r ∷ rs) cells
declared_first (r ∷ rs) cells (suc k) = declared_first rs (declare cells r) k

module _ (rs : List Record) (k i : ℕ) (inside : k < length rs) (is : nth rs k ≡ cell i) where
  -- one cell more
  pub declared_cell : declared [] (take (k + 1) rs) ≡ declared [] (take k rs) ++ i ∷ []
  declared_cell = declared_take rs [] k inside ∙ ap (declare (declared [] (take k rs))) is

  pub declared_room : length (declared [] (take k rs)) < length (declared [] rs)
  declared_room = omega (arith, declared_first rs [] (k + 1), ap length declared_cell, length-append (declared [] (take k rs)) (i ∷ []))

-- fewer cells than there are places
pub cell_below : (s : ScanOrder) (L q : ℕ) (bytes : List ℕ) → 0 < L → Admitted (listed s) L q bytes → (k i : ℕ) → k < length (records bytes) → cell i ≡ nth (records bytes) k
    → length (declared [] (take k (records bytes))) + 1 < L
cell_below s L q bytes z a k i l is = omega (arith, declared_room (records bytes) k i l (sym is), admitted_cells (listed s) L q bytes z a)

pub positions_more : (order inputs ps : List ℕ) (i : ℕ) → length inputs < length ps → Positions order inputs ps
    → Positions order (inputs ++ i ∷ []) (set ps (length inputs) (position order i))
positions_more order inputs ps i room before j l = elim (cases_eq j (length inputs)) [
  | inl e ↦ (
      let add : length inputs + 0 ≡ length inputs = omega arith in
      ap (λ (m : ℕ). get_or (set ps (length inputs) (position order i)) m 0) e ∙ get_or-set_same ps (length inputs) (position order i) 0 room
      ∙ ap (position order) (sym (ap (λ (m : ℕ). get_or (inputs ++ i ∷ []) m 0) (e ∙ sym add) ∙ get_or-append-add inputs (i ∷ []) 0 0))
      )
  | inr ne ↦ (
      let low : j < length inputs = omega (arith, length-append inputs (i ∷ [])) in
      get_or-set_other ps (length inputs) j (position order i) 0 ne ∙ before j low ∙ ap (position order) (sym (get_or_append_left inputs (i ∷ []) 0 j low))
      )
]

-- Where the positions of a patch's cells, which are `all`, are listed as its records are taken off: `count` of them are, and `left` is to come.
pub record Listing (order all ps : List ℕ) (count : ℕ) (left : List Record) : Type 0 where
  pub cells : List ℕ
  pub counts : count ≡ length cells
  pub rest : declared cells left ≡ all
  pub positions : Positions order cells ps

pub listing_starts : (order ps : List ℕ) (rs : List Record) → Listing order (declared [] rs) ps 0 rs
listing_starts order ps rs = record { cells = []; counts = refl; rest = refl; positions = λ i l. absurd (omega arith) }

module _ {order all ps : List ℕ} {count : ℕ} {left : List Record} (S : Listing order all ps count left) where
  pub listing_ends : left ≡ [] → (count ≡ length all) × Positions order all ps
  listing_ends none =
      let same : S.cells ≡ all = ap (declared S.cells) (sym none) ∙ S.rest in (S.counts ∙ ap length same, subst (λ (xs : List ℕ). Positions order xs ps) same S.positions)

  module _ (e : Entry) (more : List Record) (first : left ≡ meant e ∷ more) where
    next : declared (declare S.cells (meant e)) more ≡ all
    next = ap (declared S.cells) (sym first) ∙ S.rest

    module _ (i : ℕ) (is : e ≡ Cell i) where
      next_cell : declared (S.cells ++ i ∷ []) more ≡ all
      next_cell = ap (λ d. declared (declare S.cells (meant d)) more) (sym is) ∙ next

      -- one cell more
      pub listing_room : count < length all
      listing_room = omega (arith, S.counts, ap length next_cell, declared_more more (S.cells ++ i ∷ []), length-append S.cells (i ∷ []))

      pub listing_cell : (ps' : List ℕ) → ps' ≡ set ps count (position order i) → count < length ps → Listing order all ps' (count + 1) more
      listing_cell ps' kept room = record {
        cells = S.cells ++ i ∷ [];
        counts = omega (arith, S.counts, length-append S.cells (i ∷ []));
        rest = next_cell;
        positions =
            subst (Positions order (S.cells ++ i ∷ [])) (sym (kept ∙ ap (λ (k : ℕ). set ps k (position order i)) S.counts)) (
            positions_more order S.cells ps i (omega (arith, S.counts)) S.positions);
      }

    -- a record of another kind
    pub listing_other : ((i : ℕ) → e ≡ Cell i → ⊥) → Listing order all ps count more
    listing_other other = record { cells = S.cells; counts = S.counts; rest = ap (λ cs. declared cs more) (sym (no_cell S.cells e other)) ∙ next; positions = S.positions }

-- the records of bytes that pass the check hold codes
pub record_code : (s : ScanOrder) (L q : ℕ) (bytes : List ℕ) → 0 < q → Admitted (listed s) L q bytes → (k : ℕ) (r : Record) → r ≡ nth (records bytes) k → code r < q
record_code s L q bytes z a k r is =
    rw is (code_small (listed s) q (declared [] (records bytes)) (nth (records bytes) k) z ((facts (listed s) q bytes (lawful s) (admitted_patch (listed s) L q bytes a)).fine k))
