use Rattle.patch.proofs.Putting.{puts_then}
use Rattle.patch.proofs.lines.RefusalText.put.Goals as goal

pub returns : goal.returns
returns c =
    let n = rw c.number.ensures at c.field.ensures.puts in
    let p = rw c.place.ensures at c.field-2.ensures.puts in record { puts = puts_then (puts_then c.text.ensures.puts (puts_then n p)) c.text-2.ensures.puts }
