use Rattle.std.proofs.Common.{rules, ◌+◌, ◌<◌, ◌≤◌, arith}
use Rattle.settling.proofs.Blocks.{source_past, exceeds, stepped}
use Rattle.settling.proofs.Counting.{each_way}
use Rattle.settling.proofs.canonicalise.back_block.Goals as goal

pub reduced_form-requires : goal.reduced_form-requires
reduced_form-requires g c =
    let s = g.S.Strip in
    let short : s.len ≤ 128 = g.met.S.Strip.short in
    let past =
    source_past g.S.Codes.Scale.model s.code g.met.S.Strip.coded c.args.places.now.cells c.args.work.now c.image_block.new.work c.args.run.start c.args.run.end (c.args.found.now.cells + 1)
    c.args.run.some c.requires.ends (omega arith) c.image_block.ensures c.requires.cellular in
    (search rules, (search rules, (search rules, (search rules, past))))

pub returns : goal.returns
returns g c =
    let s = g.S.Strip in
    let M = g.S.Codes.Scale.model in
    let m = c.args.places.now.cells in
    let a = c.args.run.start in
    let e = c.args.run.end in
    let size = c.args.found.now.cells + 1 in
    let few : size ≤ 32 = omega (arith, c.args.found.now.few) in
    let pos = c.args.places.now.pos in
    let cpos = c.args.found.now.pos in
    let w₀ = c.args.work.now in
    let w₁ = c.image_block.new.work in
    let w₂ = c.reduced_form.new.work in
    let short : s.len ≤ 128 = g.met.S.Strip.short in
    let m_in : m < 128 = omega arith in
    let some : a < e = c.args.run.some in
    let tab = c.reduced_form.ensures in
    each_way c.number.result _ _ _ _
    (exceeds M s.code g.met.S.Strip.coded m w₀ w₁ a e size some c.requires.ends m_in c.image_block.ensures c.requires.cellular
    w₂ few tab.shape tab.tidy tab.span tab.outside pos c.args.places.now.order c.requires.span c.requires.edge cpos)
    (λ _ n.
    stepped M s.code g.met.S.Strip.coded m w₀ w₁ a e size some c.requires.ends m_in c.image_block.ensures c.requires.cellular
    w₂ few tab.shape tab.tidy tab.span tab.outside pos c.args.places.now.order c.requires.span c.requires.edge cpos
    c.number.new.work c.number.new.found.pos (c.number.new.found.cells + 1) (omega (arith, c.number.new.found.few)) n)
    c.number.ensures
