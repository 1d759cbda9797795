use Rattle.settling.specs.Draft.{Tables}
use Rattle.settling.specs.Trimming.{Advances}
use Rattle.settling.proofs.trim.trim_places.Given as goal

abbrev pub invariant-loop-h : goal.invariant-loop-h
invariant-loop-h g l =
    let s = g.S.Strip in
    record {
      tables : Tables s.code l.work l.places.cells;
      step : Advances g.S.Codes.Scale.model s.code l.places.pos l.places.cells l.initial.work 0 l.work l.h;
    }
