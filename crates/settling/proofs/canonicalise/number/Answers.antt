use Rattle.std.proofs.Common.{◌≡◌, ℕ, ◌+◌, ◌≤◌, true, false, sym, ◌∙◌, arith}
use Rattle.strip.specs.Row.{Row}
use Rattle.elimination.specs.Rows.{Rows}
use Rattle.elimination.proofs.Sums.{at}
use Rattle.settling.specs.Backing.{filled, rows}
use Rattle.settling.proofs.Counting.{numbered_none, numbered_skip, numbered_more, filled_yes, filled_no, count_step, count_rises}
use Rattle.settling.proofs.canonicalise.number.Goals as goal
use Rattle.settling.proofs.canonicalise.number.Goals.{then-pivot-ne0+in_ok-j, else-pivot-ne0}

pub loop-k-init : goal.loop-k-init
loop-k-init g c = numbered_none g.S.Strip.code c.args.work.now c.args.found.now.pos c.args.p c.args.run.start c.args.run.end (c.args.found.now.cells + 1)

pub loop-k-preserved : goal.loop-k-preserved
loop-k-preserved g c =
    let s = g.S.Strip in
    let w₀ = c.args.work.now in
    let k = c.loop-k.k in
    let n = c.loop-k.invariant in
    let short : s.len ≤ 128 = g.met.S.Strip.short in
    let read : c.pivot.result ≡ Rows s.code w₀ 256 k k = c.pivot.ensures ∙ at (n.tab k (omega (arith, c.args.found.now.few))) k in
    let found = c.loop-k.found in
    let size_in : c.args.found.now.cells + 1 ≤ 32 = omega (arith, c.args.found.now.few) in
    elim c.if-pivot-ne0.branch [
      | then-pivot-ne0+in_ok-j w ↦
          (let row : filled (Rows s.code w₀ 256) k ≡ true = filled_yes (Rows s.code w₀ 256) k (λ z. w.if-pivot-ne0.true (read ∙ z)) in
          let next = w.push.new.self in
          let is = w.in_ok-j.ensures in
          let cells : next.cells ≡ found.cells + 1 = is.1 ∙ is.0 in
          rw (w.work-is, w.found-is, cells)
          (numbered_more s.code w₀ c.args.found.now.pos c.args.p c.args.run.start c.args.run.end (c.args.found.now.cells + 1) c.loop-k.work found.pos k (found.cells + 1) n
          w.add_cell.new.work next.pos row (omega arith) (omega (arith, next.few)) size_in (omega (arith, c.args.run.some)) (omega arith)
          (rw is.0 at w.add_cell.ensures) (rw is.0 at is.2) (omega (arith, next.few, found.wide))))
      | else-pivot-ne0 w ↦
          (let none : filled (Rows s.code w₀ 256) k ≡ false = filled_no (Rows s.code w₀ 256) k (sym read ∙ w.if-pivot-ne0.false) in
          rw (w.work-is, w.found-is)
          (numbered_skip s.code w₀ c.args.found.now.pos c.args.p c.args.run.start c.args.run.end (c.args.found.now.cells + 1) c.loop-k.work found.pos k (found.cells + 1) n none))
    ]

pub returns-in_err-j : goal.returns-in_err-j
returns-in_err-j g c =
    let s = g.S.Strip in
    let R : ℕ → Row = Rows s.code c.args.work.now 256 in
    let k = c.loop-k.k in
    let n = c.loop-k.invariant in
    let read : c.pivot.result ≡ R k k = c.pivot.ensures ∙ at (n.tab k (omega (arith, c.args.found.now.few))) k in
    let row : filled R k ≡ true = filled_yes R k (λ z. c.if-pivot-ne0.true (read ∙ z)) in
    let size : ℕ = c.args.found.now.cells + 1 in
    let up : rows R (k + 1) ≤ rows R size = count_rises (filled R) (k + 1) size (omega arith) in
    rw c.from_residual.ensures (omega (arith, count_step (filled R) k row, n.many, c.in_err-j.ensures.0, up))
