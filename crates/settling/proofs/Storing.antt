-- A place gets its rows off and dif while places are trimmed.
use Rattle.std.proofs.Common.{◌≡◌, ℕ, ◌+◌, ◌<◌, ◌≤◌, ◌≢◌, List, ap, ◌∙◌, arith}
use mathlib.Core.Path.{fun_ext}
use native.Mathlib.Decide.{ℕ_discrete}
use Rattle.strip.specs.Row.{Row}
use Rattle.elimination.specs.Rows.{Rows, RowSet, Outside}
use Rattle.elimination.proofs.Sums.{at}
use Rattle.settling.specs.Draft.{Tables}

module _ {S : Type 0} (code : S → Row) (w w₁ w₂ : List S) (h : ℕ) (h_in : h < 128) (o d : Row)
    (off : RowSet (Rows code w 0) h o (Rows code w₁ 0)) (off_out : (n : ℕ) → h < n → Outside code w 0 n w₁)
    (dif : RowSet (Rows code w₁ 128) h d (Rows code w₂ 128)) (dif_out : (n : ℕ) → h < n → Outside code w₁ 128 n w₂) where
  pub table_kept : Rows code w₂ 256 ≡ Rows code w 256
  table_kept = fun_ext (λ k. (dif_out 128 h_in).after 256 k (omega arith) ∙ (off_out 128 h_in).after 256 k (omega arith))

  pub off_here : Rows code w₂ 0 h ≡ o
  off_here = (dif_out 128 h_in).before 0 h (omega arith) ∙ off.here

  pub off_other : (k : ℕ) → k ≢ h → k < 128 → Rows code w₂ 0 k ≡ Rows code w 0 k
  off_other k n l = (dif_out 128 h_in).before 0 k (omega arith) ∙ off.rest k n

  pub dif_other : (k : ℕ) → k ≢ h → Rows code w₂ 128 k ≡ Rows code w 128 k
  dif_other k n = dif.rest k n ∙ (off_out 128 h_in).after 128 k (omega arith)

  pub tables_kept : (m : ℕ) → m < 128 → Tables code w m → ((p : ℕ) → m + 1 ≤ p → o p ≡ 0) → ((p : ℕ) → m + 1 ≤ p → d p ≡ 0) → Tables code w₂ m
  tables_kept m m_in t o_past d_past = record {
    shape = rw table_kept t.shape;
    row = rw table_kept t.row;
    off = λ k p l b. elim (ℕ_discrete k h) [
      | yes q ↦ ap (λ i. Rows code w₂ 0 i p) q ∙ at off_here p ∙ o_past p b
      | no n ↦ at (off_other k n (omega arith)) p ∙ t.off k p l b
    ];
    dif = λ k p l b. elim (ℕ_discrete k h) [
      | yes q ↦ ap (λ i. Rows code w₂ 128 i p) q ∙ at dif.here p ∙ d_past p b
      | no n ↦ at (dif_other k n) p ∙ t.dif k p l b
    ];
  }
