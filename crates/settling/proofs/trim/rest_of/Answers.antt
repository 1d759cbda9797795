use Rattle.std.proofs.Common.{◌≡◌, ◌+◌, ◌-◌, sym, ap, ◌∙◌, ap₂, arith}
use mathlib.Core.Logic.{ite, if_pos, if_neg}
use native.Mathlib.Decide.{dec_lt}
use Rattle.linear.specs.Sums.{sum as total}
use Rattle.elimination.specs.Lift.{up, scalars, Grid}
use Rattle.strip.specs.Row.{Row}
use Rattle.elimination.specs.Rows.{Rows}
use Rattle.elimination.proofs.Lifting.{up_is_zero}
use Rattle.elimination.proofs.Sums.{at}
use Rattle.settling.proofs.trim.rest_of.Goals as goal

pub returns : goal.returns
returns g c p =
    let s = g.S.Strip in
    let M = g.S.Codes.Scale.model in
    let e = c.args.e in
    let h = c.args.h in
    let w = c.args.work.now in
    let read : s.code c.row-r.result ≡ Rows s.code w 256 h = c.row-r.ensures in
    let low : up M (s.code c.tail-o.result p) ≡ ite (dec_lt p e) (scalars M).zero (Grid M s.code w 256 h p) = elim (dec_lt p e) [
      | yes l ↦ up_is_zero M (c.tail-o.ensures.low p l) ∙ sym (if_pos (dec_lt p e) l (scalars M).zero (Grid M s.code w 256 h p))
      | no l ↦ ap (up M) (c.tail-o.ensures.high p (omega arith) ∙ at read p) ∙ sym (if_neg (dec_lt p e) l (scalars M).zero (Grid M s.code w 256 h p))
    ] in
    c.gather.ensures p
    ∙ ap₂ (scalars M).plus low (ap (λ (r : Row). total (scalars M) (e - h) (λ i. (scalars M).times (up M (r (h + i))) (Grid M s.code w 0 (h + i) p))) read)
