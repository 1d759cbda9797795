use Rattle.patch.proofs.Putting.{puts_then}
use Rattle.patch.proofs.text.Output.line.Goals as goal

pub returns-in-Cell-clause-puts : goal.returns-in-Cell-clause-puts
returns-in-Cell-clause-puts c =
    rw c.in-Cell.is (
    puts_then c.text.ensures.puts (
    puts_then c.field.ensures.puts (puts_then c.text-in-Cell.ensures.puts (puts_then c.field-in-Cell.ensures.puts c.text-in-Cell-2.ensures.puts))))

pub returns-in-Outlet-clause-puts : goal.returns-in-Outlet-clause-puts
returns-in-Outlet-clause-puts c =
    rw c.in-Outlet.is (
    puts_then c.text-in-Outlet.ensures.puts (
    puts_then c.field-in-Outlet.ensures.puts (puts_then c.field-in-Outlet-2.ensures.puts c.text-in-Outlet-2.ensures.puts)))
