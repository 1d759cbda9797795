use Rattle.std.proofs.Common.{◌≡◌, ℕ, ◌+◌, ◌<◌, ◌≤◌, get_or, sym, refl, ap, ◌∙◌, subst, arith}
use mathlib.Core.Path.{fun_ext}
use Rattle.diagram.proofs.Forward.{trimmed_formed, trimmed_rule, trimmed_derived}
use Rattle.diagram.specs.Canonical.{Derived}
use Rattle.diagram.specs.Diagram.{Assignment, Diagram, val, rule}
use Rattle.diagram.specs.Passes.{Trims}
use Rattle.elimination.specs.Lift.{Element, up, vec, scalars, Grid}
use Rattle.elimination.specs.Rows.{Rows}
use Rattle.elimination.proofs.Lifting.{up_is_zero, up_one}
use Rattle.elimination.proofs.Sums.{at}
use Rattle.settling.specs.Draft.{drafted}
use Rattle.settling.specs.Trimming.{Trimming}
use Rattle.settling.proofs.Forth.{started, ended}
use Rattle.settling.proofs.trim.trim_work.Goals as goal

pub returns-clause-trimmed : goal.returns-clause-trimmed
returns-clause-trimmed g c formed =
    let s = g.S.Strip in
    let M = g.S.Codes.Scale.model in
    let pos = c.args.d.now.places.pos in
    let n = get_or pos c.args.d.now.places.cells 0 in
    let m = c.args.d.now.places.cells in
    let w₀ = c.args.work.now in
    let w₁ = c.steady_table.new.work in
    let w₂ = c.absorb-d.new.work in
    let w₃ = c.trim_places.new.work in
    let short : s.len ≤ 128 = g.met.S.Strip.short in
    let within : m < s.len = c.requires.sound.within in
    let m_in : m < 128 = omega arith in
    let D : Diagram (Element M) = drafted M s.code w₀ pos m (s.code c.args.d.now.out) in
    let kept : (b k : ℕ) → b + k < 256 → Rows s.code w₂ b k ≡ Rows s.code w₀ b k = λ b k l. c.absorb-d.ensures.outside.before b k l ∙ c.steady_table.ensures.outside.before b k l in
    let start : Trimming (scalars M) n m D (Grid M s.code w₂ 256) (Grid M s.code w₂ 0) (Grid M s.code w₂ 128) (vec M (s.code c.absorb-d.result)) 0 =
    started (scalars M) n m D formed refl (omega arith) c.args.d.now.places.order.cells (λ a b l k. c.args.d.now.places.order.rising a b l (omega arith))
    (Grid M s.code w₁ 256) (Grid M s.code w₂ 256) (Grid M s.code w₂ 0) (Grid M s.code w₂ 128) (vec M (s.code c.absorb-d.result))
    (ap (up M) c.steady_table.ensures.one ∙ up_one M) (λ h u l. up_is_zero M (at (c.steady_table.ensures.blank h l) u)) c.absorb-d.ensures.absorbed
    (λ k u l b. up_is_zero M (c.absorb-d.ensures.shape.low k u l b))
    (λ k u l. ap (up M) (at (kept 0 k (omega arith)) u)) (λ k u l. ap (up M) (at (kept 128 k (omega arith)) u)) in
    let end = c.trim_places.ensures.step (Grid M s.code w₀ 0) (Grid M s.code w₀ 128) (vec M (s.code c.args.d.now.out)) (vec M (s.code c.absorb-d.result)) formed start in
    let trims : Trims (scalars M) n D (Grid M s.code w₃ 256) (Grid M s.code w₃ 0) (Grid M s.code w₃ 128) (vec M (s.code c.absorb-d.result)) =
    ended (scalars M) n m D formed refl (omega arith) c.args.d.now.places.order.cells (λ a b l k. c.args.d.now.places.order.rising a b l (omega arith))
    (Grid M s.code w₃ 256) (Grid M s.code w₃ 0) (Grid M s.code w₃ 128) (vec M (s.code c.absorb-d.result))
    (λ k u l b. up_is_zero M (c.trim_places.ensures.tables.shape.low k u l b)) end in
    let D' : Diagram (Element M) = drafted M s.code w₃ pos m (s.code c.absorb-d.result) in
    let same : (a : Assignment) → rule (scalars M) n D' a ≡ rule (scalars M) n D a = trimmed_rule (scalars M) n D formed _ _ _ _ trims in
    record {
      same = same;
      derives = record {
        formed = trimmed_formed (scalars M) n D formed _ _ _ _ trims;
        reached = λ h l. subst (λ (f : Assignment → Element M). Derived (scalars M) f (get_or pos h 0) (val (scalars M) n D' h)) (sym (fun_ext same))
            (trimmed_derived (scalars M) n D formed _ _ _ _ trims _ (get_or pos h 0) h (omega arith) (end.derived h l));
      };
    }
