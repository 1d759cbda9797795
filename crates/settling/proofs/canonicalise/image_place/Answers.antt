use Rattle.std.proofs.Common.{◌≡◌, ℕ, ◌+◌, ◌-◌, ◌<◌, ◌≤◌, ap, ◌∙◌, ap₂, arith}
use Rattle.linear.specs.Sums.{sum as total}
use Rattle.linear.proofs.Ring.{zero_plus}
use Rattle.elimination.specs.Lift.{up, scalars, Grid}
use Rattle.strip.specs.Row.{Row}
use Rattle.elimination.specs.Rows.{Rows}
use Rattle.elimination.proofs.Lifting.{up_is_zero}
use Rattle.elimination.proofs.Sums.{at}
use Rattle.settling.proofs.canonicalise.image_place.Goals as goal

pub returns-clause-is : goal.returns-clause-is
returns-clause-is g c =
    let s = g.S.Strip in
    let M = g.S.Codes.Scale.model in
    let m = c.args.m in
    let e = c.args.e in
    let h = c.args.h in
    let w₀ = c.args.work.now in
    let w₁ = c.store.new.work in
    let w₂ = c.store-2.new.work in
    let short : s.len ≤ 128 = g.met.S.Strip.short in
    let h_in : h < 128 = omega arith in
    let img : (k : ℕ) → Rows s.code w₂ 384 k ≡ Rows s.code w₁ 384 k = λ k. (c.store-2.ensures.outside 128 h_in).after 384 k (omega arith) in
    record {
      img = λ p. ap (up M) (at (img h ∙ c.store.ensures.row.here) p) ∙ c.gather.ensures p
          ∙ ap₂ (scalars M).plus (up_is_zero M (at c.blank-rest.ensures p)) (ap (λ (r : Row). total (scalars M) (m + 1 - e) (λ i. (scalars M).times (up M (r (e + i))) (Grid M s.code w₀ 384 (e + i) p))) c.row-off.ensures)
          ∙ zero_plus (scalars M) _;
      dif = λ p. ap (up M) (at c.store-2.ensures.row.here p) ∙ c.gather-2.ensures p
          ∙ ap₂ (scalars M).plus (up_is_zero M (at c.blank-gain.ensures p)) (ap (λ (r : Row). total (scalars M) (m + 1 - e) (λ i. (scalars M).times (up M (r (e + i))) (Grid M s.code w₀ 384 (e + i) p))) c.row-dif.ensures)
          ∙ zero_plus (scalars M) _;
    }
