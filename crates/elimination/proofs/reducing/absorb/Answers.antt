use Rattle.std.proofs.Common.{◌≡◌, ℕ, ◌<◌, ◌≤◌, length, arith}
use Rattle.strip.specs.Row.{Row}
use Rattle.elimination.specs.Arithmetic.{arithmetic}
use Rattle.elimination.specs.Rows.{rows_in, InSpan, LessSpan}
use Rattle.elimination.proofs.Absorbing.{absorbed_new, absorbed_none}
use Rattle.elimination.proofs.Tables.{row_coded}
use Rattle.elimination.proofs.Insides.{left_inside, left_blank, set_inside}
use Rattle.elimination.proofs.Spans.{grows, grows_none, nothing_left, stays}
use Rattle.elimination.proofs.Sums.{zero_code}
use Rattle.elimination.proofs.reducing.absorb.Goals as goal

pub returns-then-h-table : goal.returns-then-h-table
returns-then-h-table g c =
    let s = g.S.Strip in
    let M = g.S.Codes.Scale.model in
    let F = arithmetic M in
    let table = c.args.table.now in
    let size = length table in
    let h = c.first_in-h.result in
    let rest = c.reduce_with-coef.new.v in
    let coded = row_coded s.code F.q (zero_code F) g.met.S.Strip.coded in
    let R : ℕ → Row = rows_in s.code table in
    let R' : ℕ → Row = rows_in s.code c.store.new.rows in
    let below : h < size = omega arith in
    let empty : R h h ≡ 0 = c.reduce_with-coef.ensures.left h c.first_in-h.ensures below in
    let out : (p : ℕ) → size ≤ p → s.code rest p ≡ 0 = left_inside F size R c.requires.inside (s.code c.args.v) (s.code rest) _ (g.met.S.Strip.coded rest) c.requires.below c.reduce_with-coef.ensures.balance in
    let less : LessSpan F size R (s.code c.args.v) (s.code rest) = record { coef = s.code c.reduce_with-coef.result; balance = c.reduce_with-coef.ensures.balance } in
    let set = c.store.ensures in
    record {
      shape = rw c.store.auto.rows (stays size R R' _ h c.requires.shape c.first_in-h.ensures below set);
      inside = rw c.store.auto.rows (set_inside size R R' (s.code rest) h c.requires.inside out set);
      grows = grows F size R _ _ _ less h below (λ p. c.requires.shape.blank h p below empty) set;
      absorbed = absorbed_new M size R R' (coded table) (coded c.store.new.rows) (s.code c.args.v) (s.code rest) (s.code c.reduce_with-coef.result) (s.code c.put.new.self)
          (g.met.S.Strip.coded c.args.v) (g.met.S.Strip.coded rest) (g.met.S.Strip.coded c.reduce_with-coef.result)
          c.reduce_with-coef.ensures.balance c.reduce_with-coef.ensures.sparse c.reduce_with-coef.ensures.past c.reduce_with-coef.ensures.early
          h below c.first_in-h.ensures (λ p. c.requires.shape.blank h p below empty) set (λ p b. c.reduce_with-coef.ensures.later h p c.first_in-h.ensures b)
          (c.put.ensures.here (omega (arith, c.requires.within)) F.one_code) c.put.ensures.rest;
    }

pub returns-else-h-table : goal.returns-else-h-table
returns-else-h-table g c =
    let s = g.S.Strip in
    let M = g.S.Codes.Scale.model in
    let F = arithmetic M in
    let table = c.args.table.now in
    let size = length table in
    let rest = c.reduce_with-coef.new.v in
    let coded = row_coded s.code F.q (zero_code F) g.met.S.Strip.coded in
    let R : ℕ → Row = rows_in s.code table in
    let blank = left_blank F size R c.requires.inside (s.code c.args.v) (s.code rest) _ (g.met.S.Strip.coded rest) c.requires.below c.reduce_with-coef.ensures.balance _ c.first_in-h.ensures (omega arith) in
    let less : LessSpan F size R (s.code c.args.v) (s.code rest) = record { coef = s.code c.reduce_with-coef.result; balance = c.reduce_with-coef.ensures.balance } in
    let spanned : InSpan F size R (s.code c.args.v) = nothing_left F size R _ _ less blank in
    record {
      shape = c.requires.shape;
      inside = c.requires.inside;
      grows = grows_none F size R _ spanned;
      absorbed = absorbed_none M size R (coded table) (s.code c.args.v) (s.code rest) (s.code c.reduce_with-coef.result)
          (g.met.S.Strip.coded c.args.v) (g.met.S.Strip.coded rest) (g.met.S.Strip.coded c.reduce_with-coef.result)
          c.reduce_with-coef.ensures.balance c.reduce_with-coef.ensures.sparse c.reduce_with-coef.ensures.past c.reduce_with-coef.ensures.early blank;
    }
