use Rattle.elimination.specs.Rows.{Outside}
use Rattle.settling.specs.Draft.{Bounded}
use Rattle.drafting.specs.Forms.{Copied, Free, Held}
use Rattle.drafting.proofs.Copying.{Next}
use Rattle.drafting.proofs.from_forms.copy_cells.Given as goal

abbrev pub invariant-loop-read : goal.invariant-loop-read
invariant-loop-read g l =
    let s = g.S.Strip in
    let M = g.S.Codes.Scale.model in
    let t = l.read-iterator.b.start in
    record {
      next : Next l.form.inputs.now t l.read-iterator.a.rest.now;
      bounded : Bounded s.code l.work l.part.steady;
      dif : Copied M s.code s.len l.part l.form 128 (Free l.form l.tied) t l.initial.work l.work;
      off : Copied M s.code s.len l.part l.form 0 (Held l.form l.tied) t l.initial.work l.work;
      outside : Outside s.code l.initial.work 0 256 l.work;
    }
