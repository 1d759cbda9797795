use Rattle.std.proofs.Common.{refl, sym, ap, ◌∙◌, arith}
use Rattle.std.proofs.lemmas.Bool.{cond-true, cond-false}
use Rattle.patch.specs.Admitted.{passes}
use Rattle.patch.specs.Orders.{listed}
use Rattle.patch.proofs.Admitting.{admitted_none}
use Rattle.patch.proofs.window.Patch.admit.Goals.{in-Ok, in-Err}
use Rattle.patch.proofs.window.Patch.admit.Goals as goal

pub invariant_of-result : goal.invariant_of-result
invariant_of-result c = elim c.match-examine.branch [
  | in-Ok w ↦ record { admitted = rw w.shown-is (λ i h. omega (arith, c.type_inv.bytes i), ap passes w.in-Ok.ensures) }
  | in-Err w ↦ record { admitted = rw w.shown-is (admitted_none (listed c.args.setup.now.order) c.args.setup.now.places c.args.setup.now.codes) }
]

pub returns : goal.returns
returns c = elim c.match-examine.branch [
  | in-Ok w ↦ record { by_setup = refl; shows = ap (λ z. z.now) w.shown-is ∙ sym (cond-true _ _ _ (ap passes w.in-Ok.ensures)) }
  | in-Err w ↦ record { by_setup = refl; shows = ap (λ z. z.now) w.shown-is ∙ sym (cond-false _ _ _ (ap passes w.in-Err.ensures)) }
]
