use Rattle.patch.proofs.Putting.{puts_then}
use Rattle.patch.proofs.text.Output.arc.Goals as goal

pub returns-clause-puts : goal.returns-clause-puts
returns-clause-puts c = puts_then c.field.ensures.puts (puts_then c.field-2.ensures.puts (puts_then c.field-3.ensures.puts c.text.ensures.puts))
