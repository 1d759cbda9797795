use Rattle.std.proofs.Common.{◌≡◌, ◌*◌, ◌<◌, length, drop, ◌++◌, arith}
use Rattle.settling.specs.Settling.{Sound}
use Rattle.settling.proofs.Fitting.{fits}
use Rattle.settling.proofs.Fronts.{Front, front_taken, front_put, beyond_put, sound_front, trimmed_out}
use Rattle.settling.proofs.trim.trim.Goals as goal

pub trim_work-requires : goal.trim_work-requires
trim_work-requires g c =
    let s = g.S.Strip in
    let v = c.args.work.now in
    (fits _ _ c.requires.room c.well_formed.0.1, rw c.over-work.ensures.first (sound_front g.S.Codes.Scale.model s.code v _ (front_taken s.code v) s.len c.args.d.now c.requires.sound))

pub returns : goal.returns
returns g c =
    let s = g.S.Strip in
    let v = c.args.work.now in
    let w = c.trim_work.new.work in
    let before : Front s.code v c.over-work.result.now = rw c.over-work.ensures.first (front_taken s.code v) in
    record {
      places = c.trim_work.ensures.places;
      trimmed = trimmed_out g.S.Codes.Scale.model s.code c.over-work.result.now v w (w ++ drop 512 v) before (front_put s.code v w c.requires.room c.still_whole.ensures) c.args.d.now c.trim_work.new.d c.trim_work.ensures.trimmed;
      beyond = beyond_put s.code v w c.requires.room c.still_whole.ensures;
    }
