use Rattle.std.proofs.Common.{arith, rules}
use Rattle.std.proofs.lemmas.Bool.Decides.{nat_tests}
use Rattle.patch.proofs.Judged.{judged_tells}
use Rattle.patch.proofs.record.check_record.Goals as goal

pub returns-in-1 : goal.returns-in-1
returns-in-1 c = judged_tells c.type_inv.record (search rules)

pub returns-in-1-2 : goal.returns-in-1-2
returns-in-1-2 c = judged_tells c.type_inv.record (search rules)

pub returns-in-2 : goal.returns-in-2
returns-in-2 c = judged_tells c.type_inv.record (search rules)

pub returns-in-2-2 : goal.returns-in-2-2
returns-in-2-2 c = judged_tells c.type_inv.record (search rules)

pub returns-in-2-3 : goal.returns-in-2-3
returns-in-2-3 c = judged_tells c.type_inv.record (search rules)

pub returns-in-4 : goal.returns-in-4
returns-in-4 c = judged_tells c.type_inv.record (search rules)

pub returns-in-4-2 : goal.returns-in-4-2
returns-in-4-2 c = judged_tells c.type_inv.record (search rules)

pub returns-in-4-3 : goal.returns-in-4-3
returns-in-4-3 c = judged_tells c.type_inv.record (search rules)

pub returns-in-5-to-255 : goal.returns-in-5-to-255
returns-in-5-to-255 c = judged_tells c.type_inv.record (search rules)

pub returns-in-3 : goal.returns-in-3
returns-in-3 c = judged_tells c.type_inv.record (grind (arith, nat_tests))

pub returns-in-2-4 : goal.returns-in-2-4
returns-in-2-4 c = judged_tells c.type_inv.record (grind (arith, nat_tests))

pub returns-in-1-3 : goal.returns-in-1-3
returns-in-1-3 c = judged_tells c.type_inv.record (search rules)

pub returns-in-len4 : goal.returns-in-len4
returns-in-len4 c = judged_tells c.type_inv.record (search rules)

pub returns-in-len4-2 : goal.returns-in-len4-2
returns-in-len4-2 c = judged_tells c.type_inv.record (search rules)

pub returns-in-len4-3 : goal.returns-in-len4-3
returns-in-len4-3 c = judged_tells c.type_inv.record (search rules)

pub returns-in-len4-4 : goal.returns-in-len4-4
returns-in-len4-4 c = judged_tells c.type_inv.record (search rules)

pub returns-in-len4-5 : goal.returns-in-len4-5
returns-in-len4-5 c = judged_tells c.type_inv.record (search rules)

pub returns-in-len4-6 : goal.returns-in-len4-6
returns-in-len4-6 c = judged_tells c.type_inv.record (search rules)

pub returns-in-0 : goal.returns-in-0
returns-in-0 c = judged_tells c.type_inv.record (search rules)
