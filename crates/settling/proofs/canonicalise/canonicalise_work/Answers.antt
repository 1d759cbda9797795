use Rattle.std.proofs.Common.{rules, ◌≡◌, ℕ, ◌+◌, ◌<◌, ◌≤◌, get_or, None, refl, ap, ◌∙◌, ap₂, arith}
use Rattle.linear.proofs.Ring.{zero_plus}
use Rattle.diagram.specs.Diagram.{Assignment, rule}
use Rattle.std.proofs.lemmas.Result.{err_from_is_err_and}
use Rattle.std.proofs.option.Match.{if_some, if_none}
use Rattle.elimination.specs.Lift.{Element, scalars, up, vec, Grid}
use Rattle.elimination.proofs.Lifting.{up_is_zero}
use Rattle.elimination.proofs.Sums.{at}
use Rattle.settling.specs.Draft.{drafted}
use Rattle.settling.proofs.Ends.{begun_cellular, begun, finished}
use Rattle.settling.proofs.canonicalise.canonicalise_work.Goals as goal

pub back_all-requires : goal.back_all-requires
back_all-requires g c =
    let st = c.lay_steady-found.ensures in
    (search rules, (search rules, rw st.cells (begun_cellular g.S.Codes.Scale.model g.S.Strip.code c.args.d.now.places.cells c.lay_steady-found.new.work c.lay_steady-found.result.pos st.cell st.one st.none)))

pub returns-in_err-ok_or : goal.returns-in_err-ok_or
returns-in_err-ok_or g c =
    let s = g.S.Strip in
    let M = g.S.Codes.Scale.model in
    let pos = c.args.d.now.places.pos in
    let m = c.args.d.now.places.cells in
    let w₀ = c.args.work.now in
    let short : s.len ≤ 128 = g.met.S.Strip.short in
    let within : m < s.len = c.requires.within in
    let st = c.lay_steady-found.ensures in
    let found = c.lay_steady-found.result in
    let w₁ = c.lay_steady-found.new.work in
    let out = vec M (s.code c.args.d.now.out) in
    let err = c.in_err-ok_or.ensures in
    let none : c.back_all.result ≡ None = grind arith in
    let p = err_from_is_err_and c.from_residual.result c.from_residual.ensures.1 in
    let many = if_none _ _ none c.back_all.ensures in
    rw p.1 (λ derives. many (Grid M s.code w₀ 0) (Grid M s.code w₀ 128) out out _ derives
    (rw st.cells (begun M s.code m w₁ found.pos st.cell st.one st.none pos c.args.d.now.places.order st.position
    (Grid M s.code w₀ 0) (Grid M s.code w₀ 128) out out _ derives.formed
    (λ h u l. ap (up M) (at (st.before 0 h (omega arith)) u)) (λ h u l. ap (up M) (at (st.before 128 h (omega arith)) u)))))

pub returns : goal.returns
returns g c =
    let s = g.S.Strip in
    let M = g.S.Codes.Scale.model in
    let pos = c.args.d.now.places.pos in
    let m = c.args.d.now.places.cells in
    let n = get_or pos m 0 in
    let w₀ = c.args.work.now in
    let w₁ = c.lay_steady-found.new.work in
    let w₂ = c.back_all.new.work in
    let first = c.lay_steady-found.result in
    let found = c.back_all.new.found in
    let size = found.cells + 1 in
    let short : s.len ≤ 128 = g.met.S.Strip.short in
    let within : m < s.len = c.requires.within in
    let st = c.lay_steady-found.ensures in
    let did = if_some _ _ _ c.in_ok-ok_or.ensures.ok_part c.back_all.ensures in
    let out : ℕ → Element M = vec M (s.code c.args.d.now.out) in
    let r = c.gather.new.sum in
    let f : Assignment → Element M = rule (scalars M) n (drafted M s.code w₀ pos m (s.code c.args.d.now.out)) in
    λ derives.
    let start = begun M s.code m w₁ first.pos st.cell st.one st.none pos c.args.d.now.places.order st.position
    (Grid M s.code w₀ 0) (Grid M s.code w₀ 128) out (vec M (s.code r)) f derives.formed
    (λ h u l. ap (up M) (at (st.before 0 h (omega arith)) u)) (λ h u l. ap (up M) (at (st.before 128 h (omega arith)) u)) in
    let end = did.recedes (Grid M s.code w₀ 0) (Grid M s.code w₀ 128) out (vec M (s.code r)) f derives (rw st.cells start) in
    finished M s.code m w₂ found.pos size did.few did.cellular pos (Grid M s.code w₀ 0) (Grid M s.code w₀ 128) out f (s.code r) (g.met.S.Strip.coded r)
    end (λ a. refl)
    (λ u. c.gather.ensures u ∙ ap₂ (scalars M).plus (up_is_zero M (at c.blank-o.ensures u)) refl ∙ zero_plus (scalars M) _)
