-- The lines of a patch, one record more at a time. Assumes nothing.
use Rattle.std.proofs.Common.{◌≡◌, ℕ, zero, suc, ◌+◌, ◌*◌, ◌<◌, ◌≤◌, ◌≢◌, List, [], ◌∷◌, ◌++◌, length, take, sym, refl, ap, ◌∙◌, arith}
use Rattle.std.proofs.lemmas.List.{append_assoc, append-nil, length_push}
use Rattle.patch.specs.declared.record.Record.{Record as Entry}
use Rattle.patch.specs.declared.record.Record.TheVariants.{Cell}
use Rattle.patch.specs.Judging.{meant}
use Rattle.patch.specs.Listing.{line, lines, or_silent}
use Rattle.patch.specs.Output.{laid, Put}
use Rattle.patch.specs.Records.{Record, declare, declared, nth}
use Rattle.patch.proofs.Putting.{put_none, put_then, put_as}
use Rattle.patch.proofs.Scanning.{no_cell}

-- the lines of the first k + 1 records are those of the first k and then that of record k
pub lines_more : (rs : List Record) (cells : List ℕ) (k : ℕ) → k < length rs
    → lines cells (take (k + 1) rs) ≡ lines cells (take k rs) ++ line (length (declared cells (take (k + 1) rs))) (nth rs k)
lines_more [] cells k h = absurd (omega arith)
lines_more (r ∷ rs) cells zero h = go rs
  where
    go : (rs : List Record) → line (length (declare cells r)) r ++ lines (declare cells r) (take 0 rs) ≡ line (length (declared (declare cells r) (take 0 rs))) r
    go [] = append-nil _
    go (s ∷ ss) = append-nil _
lines_more (r ∷ rs) cells (suc k) h =
    let e : suc k + 1 ≡ suc (k + 1) = omega arith in
    rw e (
    ap (λ x. line (length (declare cells r)) r ++ x) (lines_more rs (declare cells r) k (omega arith))
    ∙ sym (append_assoc (line (length (declare cells r)) r) (lines (declare cells r) (take k rs)) (line (length (declared (declare cells r) (take (k + 1) rs))) (nth rs k))))

pub cell_more : (cells : List ℕ) (e : Entry) (i : ℕ) → e ≡ Cell i → length (declare cells (meant e)) ≡ length cells + 1
cell_more cells e i h = ap (λ d. length (declare cells (meant d))) h ∙ length_push cells i

-- Where the lines of the records rs stand: `o` is the output with a text in it up to `at`, `n` cells are declared, and `rest` is left.
pub record Lining (out : List ℕ) (rs : List Record) (o : List ℕ) (at n : ℕ) (rest : List Record) : Type 0 where
  pub text : List ℕ
  pub cells : List ℕ
  pub put : Put out 0 text o at
  pub counted : n ≡ length cells
  pub same : text ++ lines cells rest ≡ lines [] rs
  pub few : n + length rest ≤ length rs
  pub near : at + 100 * length rest ≤ 100 * length rs

pub lining_starts : (out : List ℕ) (rs : List Record) → Lining out rs out 0 0 rs
lining_starts out rs = record { text = []; cells = []; put = put_none out 0; counted = refl; same = refl; few = omega arith; near = omega arith }

module _ {out : List ℕ} {rs : List Record} {o : List ℕ} {at n : ℕ} {rest : List Record} (S : Lining out rs o at n rest) where
  pub counts_cell : (e : Entry) (i : ℕ) → e ≡ Cell i → n + 1 ≡ length (declare S.cells (meant e))
  counts_cell e i h = ap (λ m. m + 1) S.counted ∙ sym (cell_more S.cells e i h)

  pub counts_other : (e : Entry) → ((i : ℕ) → e ≡ Cell i → ⊥) → n ≡ length (declare S.cells (meant e))
  counts_other e h = S.counted ∙ sym (ap length (no_cell S.cells e h))

  pub lining_more : (e : Entry) (more : List Record) (o' : List ℕ) (at' n' : ℕ) → rest ≡ meant e ∷ more → n' ≡ length (declare S.cells (meant e)) → n' ≤ n + 1
      → Put o at (line n' (meant e)) o' at' → at' ≤ at + 100 → Lining out rs o' at' n' more
  lining_more e more o' at' n' first count low put near = record {
    text = S.text ++ line n' (meant e);
    cells = declare S.cells (meant e);
    put = put_then S.put put;
    counted = count;
    same =
        append_assoc S.text (line n' (meant e)) (lines (declare S.cells (meant e)) more) ∙ ap (λ m. S.text ++ (line m (meant e) ++ lines (declare S.cells (meant e)) more)) count
        ∙ ap (λ r. S.text ++ lines S.cells r) (sym first) ∙ S.same;
    few = omega (arith, S.few, ap length first);
    near = omega (arith, S.near, ap length first);
  }

  pub lining_ends : rest ≡ [] → Put out 0 (lines [] rs) o at
  lining_ends h = put_as (sym (append-nil S.text) ∙ ap (λ r. S.text ++ lines S.cells r) (sym h) ∙ S.same) S.put

-- without lines the listing is silent
pub silent_put : (text out mid after : List ℕ) (m e : ℕ) → Put out 0 text mid m → m ≡ 0 → Put mid 0 (or_silent []) after e → Put out 0 (or_silent text) after e
silent_put [] out mid after m e a z b = record { writes = b.writes ∙ ap (λ o. laid o 0 (or_silent [])) a.writes; ends = b.ends }
silent_put (c ∷ text) out mid after m e a z b = absurd (omega (arith, a.ends))

pub loud_put : (text out after : List ℕ) (e : ℕ) → Put out 0 text after e → e ≢ 0 → Put out 0 (or_silent text) after e
loud_put [] out after e a n = absurd (n a.ends)
loud_put (c ∷ text) out after e a n = a
