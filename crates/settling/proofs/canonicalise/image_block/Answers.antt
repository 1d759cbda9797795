use Rattle.std.proofs.Common.{ℕ, ◌+◌, ◌-◌, ◌<◌, ◌≤◌, sym, ap, ◌∙◌, subst, ap₂, arith}
use native.Mathlib.Decide.{ℕ_discrete}
use Rattle.linear.proofs.Sums.{sum_cong}
use Rattle.elimination.specs.Lift.{up, scalars}
use Rattle.elimination.proofs.Sums.{at}
use Rattle.settling.specs.Backing.{Pictured}
use Rattle.settling.proofs.canonicalise.image_block.Goals as goal

pub loop-h-preserved : goal.loop-h-preserved
loop-h-preserved g c =
    let s = g.S.Strip in
    let M = g.S.Codes.Scale.model in
    let m = c.args.m in
    let a = c.args.run.start in
    let e = c.args.run.end in
    let h = c.loop-h.h in
    let w₀ = c.args.work.now in
    let w = c.loop-h.work in
    let w' = c.image_place.new.work in
    let short : s.len ≤ 128 = g.met.S.Strip.short in
    let inv = c.loop-h.invariant in
    let got = c.image_place.ensures in
    let a_h : a ≤ h = omega arith in
    let h_e : h < e = omega arith in
    record {
      done = λ k l b. elim (ℕ_discrete k h) [
        | yes q ↦ subst (λ (k : ℕ). Pictured M s.code w₀ w' m e k) (sym q) (record {
          img = λ p. got.is.img p ∙ sum_cong (scalars M) (m + 1 - e) _ _ (λ i r.
              ap₂ (scalars M).times (ap (up M) (at (inv.off h (omega arith)) (e + i))) (ap (up M) (at (inv.img_later (e + i) (omega arith)) p)));
          dif = λ p. got.is.dif p ∙ sum_cong (scalars M) (m + 1 - e) _ _ (λ i r.
              ap₂ (scalars M).times (ap (up M) (at (inv.dif_later h (omega arith) (omega arith)) (e + i))) (ap (up M) (at (inv.img_later (e + i) (omega arith)) p)));
        })
        | no n ↦ record {
          img = λ p. ap (up M) (at (got.img k n) p) ∙ (inv.done k l (omega arith)).img p;
          dif = λ p. ap (up M) (at (got.dif k n (omega arith)) p) ∙ (inv.done k l (omega arith)).dif p;
        }
      ];
      img_later = λ k l. got.img k (omega arith) ∙ inv.img_later k (omega arith);
      dif_later = λ k l b. got.dif k (omega arith) b ∙ inv.dif_later k (omega arith) b;
      dif_before = λ k l. got.dif k (omega arith) (omega arith) ∙ inv.dif_before k l;
      off = λ k l. got.off k l ∙ inv.off k l;
      tab = λ b k l q. got.tab b k l q ∙ inv.tab b k l q;
    }
