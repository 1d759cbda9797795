use Rattle.std.proofs.Common.{◌≡◌, ℕ, ◌+◌, ◌<◌, ◌≤◌, ◌≢◌, ap, ◌∙◌, arith}
use native.Mathlib.Decide.{ℕ_discrete}
use Rattle.strip.specs.Row.{zeros}
use Rattle.elimination.specs.Rows.{Rows, Outside}
use Rattle.elimination.proofs.Grids.{outside_trans}
use Rattle.elimination.proofs.Sums.{at}
use Rattle.settling.proofs.trim.steady_table.Goals as goal

pub returns-clause-tables : goal.returns-clause-tables
returns-clause-tables g c =
    let s = g.S.Strip in
    let M = g.S.Codes.Scale.model in
    let m = c.args.m in
    let w₀ = c.args.work.now in
    let w₂ = c.store.new.work in
    let short : s.len ≤ 128 = g.met.S.Strip.short in
    let m_in : m < 128 = omega arith in
    let out : Outside s.code w₀ 256 (m + 1) w₂ = outside_trans s.code w₀ c.wipe.new.work w₂ 256 (m + 1) c.wipe.ensures.outside (c.store.ensures.outside (m + 1) (omega arith)) in
    let one : Rows s.code w₂ 256 m m ≡ 1 = at c.store.ensures.row.here m ∙ c.put.ensures.here c.requires.within M.field.two in
    let unit : (p : ℕ) → p ≢ m → Rows s.code w₂ 256 m p ≡ 0 = λ p n. at c.store.ensures.row.here p ∙ c.put.ensures.rest p n ∙ at c.blank-unit.ensures p in
    let blank : (h : ℕ) → h < m → Rows s.code w₂ 256 h ≡ zeros = λ h l. c.store.ensures.row.rest h (omega arith) ∙ c.wipe.ensures.blank h (omega arith) in
    record {
      shape = record {
        low = λ h p l b. elim (ℕ_discrete h m) [
          | yes e ↦ ap (λ i. Rows s.code w₂ 256 i p) e ∙ unit p (omega arith)
          | no n ↦ at (blank h (omega arith)) p
        ];
        blank = λ h p l z. elim (ℕ_discrete h m) [
          | yes e ↦ absurd (let same : Rows s.code w₂ 256 h h ≡ Rows s.code w₂ 256 m m = ap (λ i. Rows s.code w₂ 256 i i) e in omega arith)
          | no n ↦ at (blank h (omega arith)) p
        ];
      };
      row = λ h p l b. elim (ℕ_discrete h m) [
        | yes e ↦ ap (λ i. Rows s.code w₂ 256 i p) e ∙ unit p (omega arith)
        | no n ↦ at (blank h (omega arith)) p
      ];
      off = λ h p l b. at (out.before 0 h (omega arith)) p ∙ c.requires.bounded.off h p l b;
      dif = λ h p l b. at (out.before 128 h (omega arith)) p ∙ c.requires.bounded.dif h p l b;
    }
