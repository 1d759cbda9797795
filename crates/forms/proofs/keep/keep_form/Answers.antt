use Rattle.std.proofs.Common.{◌≡◌, ℕ, min, ◌+◌, ◌-◌, arith}
use Rattle.elimination.specs.Rows.{Rows}
use Rattle.forms.specs.Keeping.{form_rows}
use Rattle.forms.proofs.Filling.{same_rows, most_rows, form_kept}
use Rattle.forms.proofs.keep.keep_form.Goals as goal

pub returns : goal.returns
returns g c =
    let code = g.S.Strip.code in
    let o = c.args.outlet.now in
    let work = c.args.work.now in
    let cells : ℕ = c.args.cells in
    let most : ℕ = c.min-most.result in
    let m : most ≡ min cells 31 = omega (arith, c.min-most.ensures) in
    let e : most + 1 - 1 ≡ most = omega arith in
    rw e (
    same_rows code c.args.slot.now _ 0 (form_rows (code o) most (Rows code work 288)) (form_rows (code o) cells (Rows code work 288)) (
    λ k l. rw m (most_rows (code o) cells (Rows code work 288) k l)) (
    form_kept code c.args.slot.now work c.copy_from_slice.new.self o most (omega arith) c.requires.room c.requires.slot c.copy_from_slice.ensures.after c.wipe.new.table (
    rw e at c.wipe.auto.table) c.wipe.ensures.blank))
