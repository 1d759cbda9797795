use Rattle.patch.proofs.text.Output.+number.Given as goal

abbrev pub decreases-number : goal.decreases-number
decreases-number l = l.n
