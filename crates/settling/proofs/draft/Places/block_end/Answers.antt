use Rattle.std.proofs.Common.{◌<◌, length, rules, arith, tests}
use Rattle.settling.proofs.Places.{ends_at, ends_last, block_is}
use Rattle.settling.proofs.draft.Places.block_end.Goals as goal

pub returns-in-Some : goal.returns-in-Some
returns-in-Some c =
    let p = c.args.self.now in
    let wide : p.cells < length p.pos = omega (arith, p.few, p.wide) in
    ends_at p.cells p.pos p.order wide c.args.h c.requires.below c.iter.result.rest.now c.iter.ensures.rest c.in-Some.k (search rules) (search (rules, tests)) (search (rules, tests))

pub returns-in-None : goal.returns-in-None
returns-in-None c =
    let p = c.args.self.now in
    let wide : p.cells < length p.pos = omega (arith, p.few, p.wide) in
    block_is p.cells p.pos c.args.h p.cells _ (omega arith)
    (ends_last p.cells p.pos p.order wide c.args.h c.requires.below c.iter.result.rest.now c.iter.ensures.rest (search (rules, tests)))
