use Rattle.std.proofs.Common.{rules}
use Rattle.settling.proofs.Whole.{settled_trimmed}
use Rattle.settling.proofs.settle.Goals as goal

pub returns-clause-settled : goal.returns-clause-settled
returns-clause-settled g c = search (rules, settled_trimmed)
