use Rattle.std.proofs.Common.{◌<◌, length, rules, arith, tests}
use Rattle.settling.proofs.Places.{starts_after, starts_first, span_is}
use Rattle.settling.proofs.draft.Places.block_start.Goals as goal

pub returns-in-Some : goal.returns-in-Some
returns-in-Some c =
    let p = c.args.self.now in
    let wide : p.cells < length p.pos = omega (arith, p.few, p.wide) in
    starts_after p.cells p.pos p.order wide c.args.e c.requires.some c.requires.ends c.iter.result.rest.now c.iter.ensures.rest c.in-Some.k (search rules) (search (rules, tests)) (search (rules, tests))

pub returns-in-None : goal.returns-in-None
returns-in-None c =
    let p = c.args.self.now in
    let wide : p.cells < length p.pos = omega (arith, p.few, p.wide) in
    span_is p.pos 0 _ c.args.e (omega arith)
    (starts_first p.cells p.pos p.order wide c.args.e c.requires.some c.requires.ends c.iter.result.rest.now c.iter.ensures.rest (search (rules, tests)))
