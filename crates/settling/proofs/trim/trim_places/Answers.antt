use Rattle.std.proofs.Common.{◌≡◌, ℕ, subst, arith}
use Rattle.settling.specs.Trimming.{Advances}
use Rattle.settling.proofs.trim.trim_places.Goals as goal

pub loop-h-preserved : goal.loop-h-preserved
loop-h-preserved g c = record {
  tables = c.trim_place.ensures.tables;
  step = λ off dif out out' formed t. c.trim_place.ensures.step off dif out out' formed (c.loop-h.invariant.step off dif out out' formed t);
}

pub returns : goal.returns
returns g c =
    let e : c.loop-h.h ≡ c.args.places.now.cells = omega arith in
    record {
      tables = c.loop-h.invariant.tables;
      step = subst (λ (i : ℕ). Advances g.S.Codes.Scale.model g.S.Strip.code c.args.places.now.pos c.args.places.now.cells c.args.work.now 0 c.loop-h.work i) e c.loop-h.invariant.step;
    }
