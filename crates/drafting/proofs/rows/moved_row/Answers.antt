use Rattle.std.proofs.Common.{sym, arith}
use Rattle.drafting.proofs.Moving.{row_read}
use Rattle.drafting.proofs.rows.moved_row.Goals as goal

pub returns-clause-row : goal.returns-clause-row
returns-clause-row g c =
    let form = c.args.form.now in
    rw (row_read g.S.Strip.code form.strips.now c.args.t c.index-strips-t.result (omega (arith, form.few, form.wide, c.requires.within)) c.index-strips-t.is, sym c.requires.cells) c.moved.ensures.row
