use Rattle.std.proofs.Common.{◌≡◌, ◌+◌, ◌-◌, ap, ◌∙◌, ap₂}
use Rattle.linear.specs.Sums.{sum as total}
use Rattle.linear.proofs.Ring.{zero_plus}
use Rattle.elimination.specs.Lift.{up, scalars, Grid}
use Rattle.strip.specs.Row.{Row}
use Rattle.elimination.specs.Rows.{Rows}
use Rattle.elimination.proofs.Lifting.{up_is_zero}
use Rattle.elimination.proofs.Sums.{at}
use Rattle.settling.proofs.trim.gain_of.Goals as goal

pub returns : goal.returns
returns g c p =
    let s = g.S.Strip in
    let M = g.S.Codes.Scale.model in
    let e = c.args.e in
    let h = c.args.h in
    let w = c.args.work.now in
    let read : s.code c.row-r.result ≡ Rows s.code w 256 h = c.row-r.ensures in
    c.gather.ensures p
    ∙ ap₂ (scalars M).plus (up_is_zero M (at c.blank-d.ensures p)) (ap (λ (r : Row). total (scalars M) (e - h) (λ i. (scalars M).times (up M (r (h + i))) (Grid M s.code w 128 (h + i) p))) read)
    ∙ zero_plus (scalars M) _
