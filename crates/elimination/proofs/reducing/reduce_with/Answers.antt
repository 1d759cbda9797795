use Rattle.std.proofs.Common.{◌≡◌, ℕ, ◌<◌, ◌≢◌, sym, ap, ◌∙◌, length, subst, arith}
use native.Mathlib.Decide.{dec_le, ℕ_discrete}
use Rattle.strip.specs.Row.{Row}
use Rattle.elimination.specs.Arithmetic.{arithmetic}
use Rattle.elimination.specs.Rows.{rows_in, Cleared, Echelon}
use Rattle.elimination.proofs.Tables.{row_read}
use Rattle.elimination.proofs.Sums.{zero_plus, combine_blank, rises, balanced}
use Rattle.elimination.proofs.reducing.reduce_with.Given as given
use Rattle.elimination.proofs.reducing.reduce_with.Goals as goal

pub loop-h-init : goal.loop-h-init
loop-h-init g c =
    let s = g.S.Strip in
    let F = arithmetic g.S.Codes.Scale.model in
    let blank : (p : ℕ) → s.code c.blank-coef.result p ≡ 0 = λ p. ap (λ (f : Row). f p) c.blank-coef.ensures in
    record {
      first = c.first_in-h.ensures;
      later = λ p _. blank p;
      sparse = λ j _ _. blank j;
      early = λ k l z. (elim (dec_le k c.first_in-h.result) [ yes o ↦ o | no o ↦ absurd (c.first_in-h.ensures.found (omega arith) (z c.first_in-h.result (omega arith))) ], λ p _. blank p);
      balance = λ p. sym (ap (F.plus _) (combine_blank F (length c.args.table.now) _ (rows_in s.code c.args.table.now) blank p)
          ∙ zero_plus F _ (g.met.S.Strip.coded c.args.v.now p));
    }

-- what a turn knows, in the words of the lemmas
module _ (g : given.Over) (c : goal.After-first_in-h-in-loop-h g) where
  R : ℕ → Row
  R = rows_in g.S.Strip.code c.args.table.now

  shape : Echelon (length c.args.table.now) R
  unfolding R
  shape = c.requires.shape

  below : c.loop-h.h < length c.args.table.now
  below = omega arith

  filled : R c.loop-h.h c.loop-h.h ≢ 0
  unfolding R
  filled e = c.if-pivot-ne0.true (c.pivot.ensures ∙ e)

  step : Cleared (arithmetic g.S.Codes.Scale.model) (g.S.Strip.code c.loop-h.v) (R c.loop-h.h) c.loop-h.h c.clear-factor.result (g.S.Strip.code c.clear-factor.new.v)
  unfolding R
  step = rw (row_read g.S.Strip.code c.args.table.now c.loop-h.h _ (omega arith) c.index-table-h.is) c.clear-factor.ensures

pub loop-h-smaller : goal.loop-h-smaller
loop-h-smaller g c =
    let F = arithmetic g.S.Codes.Scale.model in
    let up = rises F (length c.args.table.now) (R g c) c.loop-h.h (below g c) (shape g c) (filled g c)
    (g.S.Strip.code c.loop-h.v) _ _ c.first_in-h-in-loop-h.result c.loop-h.invariant.first (step g c) c.first_in-h-in-loop-h.ensures in
    omega arith

pub loop-h-preserved : goal.loop-h-preserved
unfolding R
loop-h-preserved g c =
    let F = arithmetic g.S.Codes.Scale.model in
    let s = g.S.Strip in
    let up = rises F (length c.args.table.now) (R g c) c.loop-h.h (below g c) (shape g c) (filled g c)
    (g.S.Strip.code c.loop-h.v) _ _ c.first_in-h-in-loop-h.result c.loop-h.invariant.first (step g c) c.first_in-h-in-loop-h.ensures in
    record {
      first = c.first_in-h-in-loop-h.ensures;
      later = λ p k. c.put.ensures.rest p (omega arith) ∙ c.loop-h.invariant.later p (omega arith);
      sparse = λ j l z. elim (ℕ_discrete j c.loop-h.h) [
        | yes e ↦ absurd (filled g c (subst (λ i. R g c i i ≡ 0) e z))
        | no n ↦ c.put.ensures.rest j n ∙ c.loop-h.invariant.sparse j l z
      ];
      early = λ k l z.
          let low = c.loop-h.invariant.early k l z in
          (omega arith, λ p b. c.put.ensures.rest p (omega arith) ∙ low.1 p b);
      balance = balanced F (length c.args.table.now) (R g c) c.loop-h.h (below g c) _ _ _ _ _ _ s.len c.requires.within (c.loop-h.invariant.later _ (omega arith)) c.put.ensures (step g c) c.loop-h.invariant.balance;
    }

pub returns-else-pivot-ne0-clause-early : goal.returns-else-pivot-ne0-clause-early
returns-else-pivot-ne0-clause-early g c k l z p b = ((c.loop-h.invariant.early k l z).1 p b, c.loop-h.invariant.first.before p (let low = c.loop-h.invariant.early k l z in omega arith))

pub returns-after-loop-h-clause-early : goal.returns-after-loop-h-clause-early
returns-after-loop-h-clause-early g c k l z p b = ((c.loop-h.invariant.early k l z).1 p b, c.loop-h.invariant.first.before p (let low = c.loop-h.invariant.early k l z in omega arith))
