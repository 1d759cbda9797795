use Rattle.std.proofs.Common.{◌≡◌, ◌+◌, ◌-◌, sym, ap, ◌∙◌, arith}
use Rattle.elimination.specs.Arithmetic.{arithmetic}
use Rattle.elimination.specs.Rows.{Rows, scaled}
use Rattle.forms.specs.Keeping.{Filled}
use Rattle.forms.proofs.Filling.{base_row, strips_copied, outlet_set, weighed_row}
use Rattle.forms.proofs.keep.keep_weighed.Goals as goal

pub returns : goal.returns
returns g c =
    let code = g.S.Strip.code in
    let M = g.S.Codes.Scale.model in
    let xs = c.args.strips.now in
    let ys = c.copy_within.new.self in
    let to = c.args.to in
    let from = c.args.from in
    let by = c.copy_within.ensures.by_index in
    let n : from + 32 - from ≡ 32 = omega arith in
    let f : Filled code xs to (Rows code xs from) ys = strips_copied code xs ys from to c.requires.source c.requires.target c.copy_within.ensures.len (λ k d h l. by.0 k d h (omega arith)) by.1 (λ k d h. by.2 k d (omega arith)) in
    outlet_set code xs ys to (Rows code xs from) c.add.new.self (scaled (arithmetic M) c.args.c (Rows code xs from 0)) c.requires.target f
    (weighed_row M _ c.args.c _ _ c.blank-outlet.ensures (g.met.S.Strip.coded _) c.add.ensures
    ∙ ap (scaled (arithmetic M) c.args.c) (sym (base_row code ys to _ (omega (arith, f.long, c.requires.target))) ∙ f.here 0 (omega arith)))
