use Rattle.std.proofs.Common.{◌≡◌, ℕ, ◌<◌, ◌≤◌, sym, ap, ◌∙◌, arith}
use native.Mathlib.Decide.{ℕ_discrete}
use Rattle.elimination.specs.Rows.{Rows}
use Rattle.elimination.proofs.Sums.{at}
use Rattle.settling.proofs.canonicalise.mark.Goals as goal

pub loop-h-preserved : goal.loop-h-preserved
loop-h-preserved g c =
    let s = g.S.Strip in
    let M = g.S.Codes.Scale.model in
    let a = c.args.run.start in
    let h = c.loop-h.h in
    let j = c.args.j in
    let k = c.args.k in
    let w₀ = c.args.work.now in
    let w = c.loop-h.work in
    let short : s.len ≤ 128 = g.met.S.Strip.short in
    let long : 64 ≤ s.len = g.met.S.Strip.long in
    let inv = c.loop-h.invariant in
    let a_h : a ≤ h = omega arith in
    let h_in : h < 128 = omega arith in
    let gain : c.ask.result ≡ Rows s.code w₀ 128 h k = c.ask.ensures ∙ at (c.row-gain.ensures ∙ inv.before 128 h (omega arith)) k in
    let code_in : c.ask.result < M.q = rw c.ask.ensures (g.met.S.Strip.coded c.row-gain.result k) in
    let old : s.code c.row-image.result ≡ Rows s.code w₀ 384 h = c.row-image.ensures ∙ inv.later h (omega arith) in
    record {
      here = λ i l b. elim (ℕ_discrete i h) [
        | yes q ↦ ap (λ (i : ℕ). Rows s.code c.store.new.work 384 i j) q ∙ at c.store.ensures.row.here j ∙ c.put.ensures.here (omega arith) code_in ∙ gain ∙ ap (λ (i : ℕ). Rows s.code w₀ 128 i k) (sym q)
        | no n ↦ at (c.store.ensures.row.rest i n) j ∙ inv.here i l (omega arith)
      ];
      rest = λ i q l b n. elim (ℕ_discrete i h) [
        | yes r ↦ ap (λ (i : ℕ). Rows s.code c.store.new.work 384 i q) r ∙ at c.store.ensures.row.here q ∙ c.put.ensures.rest q n ∙ at old q ∙ ap (λ (i : ℕ). Rows s.code w₀ 384 i q) (sym r)
        | no r ↦ at (c.store.ensures.row.rest i r) q ∙ inv.rest i q l (omega arith) n
      ];
      later = λ i l. c.store.ensures.row.rest i (omega arith) ∙ inv.later i (omega arith);
      before = λ b i l. (c.store.ensures.outside 128 h_in).before b i l ∙ inv.before b i l;
    }
