use Rattle.std.proofs.Common.{◌≡◌, ℕ, ◌+◌, ◌<◌, ◌≤◌, get_or, sym, refl, ap, ◌∙◌, subst, arith}
use Rattle.linear.specs.Linear.{comb}
use Rattle.linear.proofs.Ring.{zero_times}
use Rattle.linear.proofs.Sums.{sum_zero}
use Rattle.diagram.proofs.Forward.{rest_blank, gain_blank}
use Rattle.strip.specs.Row.{Row, zeros}
use Rattle.elimination.specs.Lift.{up, scalars, Grid}
use Rattle.elimination.specs.Rows.{Rows}
use Rattle.elimination.proofs.Lifting.{up_is_zero}
use Rattle.elimination.proofs.Sums.{at}
use Rattle.settling.specs.Draft.{drawn}
use Rattle.settling.specs.Trimming.{Trimming}
use Rattle.settling.proofs.Forth.{noted}
use Rattle.settling.proofs.Storing.{table_kept, off_here, off_other, dif_other, tables_kept}
use Rattle.settling.proofs.trim.trim_place.Goals as goal

pub returns-then-pivot-eq0 : goal.returns-then-pivot-eq0
returns-then-pivot-eq0 g c =
    let s = g.S.Strip in
    let pos = c.args.places.now.pos in
    let order = c.args.places.now.order in
    let M = g.S.Codes.Scale.model in
    let m = c.args.places.now.cells in
    let h = c.args.h in
    let w₀ = c.args.work.now in
    let w₁ = c.store.new.work in
    let w₂ = c.store-then-pivot-eq0.new.work in
    let short : s.len ≤ 128 = g.met.S.Strip.short in
    let h_in : h < 128 = omega arith in
    let off = c.store.ensures in
    let dif = c.store-then-pivot-eq0.ensures in
    let o = s.code c.blank.result in
    let d = s.code c.blank-then-pivot-eq0.result in
    let row : Rows s.code w₂ 256 ≡ Rows s.code w₀ 256 = table_kept s.code w₀ w₁ w₂ h h_in o d off.row off.outside dif.row dif.outside in
    let off_blank : Rows s.code w₂ 0 h ≡ zeros = off_here s.code w₀ w₁ w₂ h h_in o d off.row off.outside dif.row dif.outside ∙ c.blank.ensures in
    let dif_blank : Rows s.code w₂ 128 h ≡ zeros = dif.row.here ∙ c.blank-then-pivot-eq0.ensures in
    let blank : Rows s.code w₀ 256 h h ≡ 0 = sym c.pivot.ensures ∙ c.if-pivot-eq0.true in
    let none : (u : ℕ) → Grid M s.code w₀ 256 h u ≡ (scalars M).zero = λ u. up_is_zero M (c.requires.tables.shape.blank h u (omega arith) blank) in
    let nothing : (u : ℕ) → comb (scalars M) (m + 1) (λ _. (scalars M).zero) (Grid M s.code w₀ 256) u ≡ (scalars M).zero = λ u. sum_zero (scalars M) (m + 1) _ (λ i l. zero_times (scalars M) _) in
    record {
      tables = tables_kept s.code w₀ w₁ w₂ h h_in o d off.row off.outside dif.row dif.outside m (omega arith) c.requires.tables (λ p l. at c.blank.ensures p) (λ p l. at c.blank-then-pivot-eq0.ensures p);
      step = λ off_ dif_ out out' formed t.
          subst (λ (R : ℕ → Row). Trimming (scalars M) (get_or pos m 0) m (drawn m pos off_ dif_ out) (λ k u. up M (R k u)) (Grid M s.code w₂ 0) (Grid M s.code w₂ 128) out' (h + 1)) (sym row)
          (noted (scalars M) (get_or pos m 0) m (drawn m pos off_ dif_ out) formed refl (omega arith) order.cells (λ a b l k. order.rising a b l (omega arith))
          (Grid M s.code w₀ 256) (Grid M s.code w₀ 0) (Grid M s.code w₀ 128) (Grid M s.code w₂ 0) (Grid M s.code w₂ 128) out' (λ _. (scalars M).zero) (λ _. (scalars M).zero) h c.requires.below t
          (λ u. up_is_zero M (at off_blank u)) (λ k u n l. ap (up M) (at (off_other s.code w₀ w₁ w₂ h h_in o d off.row off.outside dif.row dif.outside k n (omega arith)) u))
          (λ u. up_is_zero M (at dif_blank u)) (λ k u n l. ap (up M) (at (dif_other s.code w₀ w₁ w₂ h h_in o d off.row off.outside dif.row dif.outside k n) u))
          (λ u l k. refl) (λ u l k. refl) (λ j l z. refl) (λ j l z. refl)
          (λ u l. rest_blank (scalars M) (get_or pos m 0) (drawn m pos off_ dif_ out) formed (get_or pos h 0) (order.cells h c.requires.below) (Grid M s.code w₀ 256 h) (λ v _ _. none v) (λ v _. none v) u l ∙ sym (nothing u))
          (λ u l. gain_blank (scalars M) (get_or pos m 0) (drawn m pos off_ dif_ out) formed (get_or pos h 0) (order.cells h c.requires.below) (Grid M s.code w₀ 256 h) (λ v _ _. none v) (λ v _. none v) u ∙ sym (nothing u)));
    }
