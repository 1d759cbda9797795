use Rattle.std.proofs.Common.{◌≤◌, ◌∙◌, arith}
use Rattle.elimination.proofs.Sums.{at}
use Rattle.settling.proofs.canonicalise.lay_steady.Goals as goal

pub returns-clause-one : goal.returns-clause-one
returns-clause-one g c =
    let long : 64 ≤ g.S.Strip.len = g.met.S.Strip.long in
    at c.store-2.ensures.row.here 0 ∙ c.put.ensures.here (omega arith) g.S.Codes.Scale.model.field.two

pub returns-clause-none : goal.returns-clause-none
returns-clause-none g c p l = at c.store-2.ensures.row.here p ∙ c.put.ensures.rest p (omega arith) ∙ at c.blank-unit.ensures p
