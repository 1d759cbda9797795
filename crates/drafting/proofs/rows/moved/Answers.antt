use Rattle.std.proofs.Common.{◌<◌, sym, ◌∙◌, arith}
use Rattle.elimination.specs.Lift.{scalars}
use Rattle.elimination.proofs.Lifting.{up_is_zero}
use Rattle.elimination.proofs.Sums.{at}
use Rattle.drafting.specs.Forms.{place_of}
use Rattle.drafting.proofs.Moving.{along_none, added_along}
use Rattle.drafting.proofs.rows.moved.Goals as goal

pub loop-t-init : goal.loop-t-init
loop-t-init g c =
    let M = g.S.Codes.Scale.model in
    (λ p l. at c.blank-v.ensures p, λ l u. up_is_zero M (at c.blank-v.ensures u) ∙ sym (along_none (scalars M) (place_of c.args.part.now) _ u))

pub loop-t-preserved : goal.loop-t-preserved
loop-t-preserved g c =
    let s = g.S.Strip in
    let M = g.S.Codes.Scale.model in (
      λ p l. c.add_at.ensures.rest p (λ e. omega (arith, c.place.ensures.within)) ∙ c.loop-t.invariant.0 p l,
      λ l.
          added_along M (place_of c.args.part.now) s.len (s.code c.loop-t.v) (s.code c.args.row.now) _ _ _ _ c.add_at.ensures c.place.ensures.is c.ask.ensures
          (omega (arith, c.place.ensures.within)) (g.met.S.Strip.coded c.loop-t.v) (let h : s.code c.args.row.now c.loop-t.t < M.q = g.met.S.Strip.coded _ _ in omega (arith, c.ask.ensures))
          (c.loop-t.invariant.1 l),
    )
