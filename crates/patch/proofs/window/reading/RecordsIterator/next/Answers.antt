use Rattle.std.proofs.Common.{length, ap, arith}
use Rattle.patch.proofs.Scanning.{taken_off}
use Rattle.patch.proofs.window.reading.RecordsIterator.next.Goals as goal

pub invariant_of-self : goal.invariant_of-self
invariant_of-self c = record { readable = (taken_off c.args.self.now.bytes.now _ _ c.in_ok-record.ensures.cases c.args.self.now.readable).1 }

pub returns-clause-steps : goal.returns-clause-steps
returns-clause-steps c = rw c.read_record.ensures (taken_off c.args.self.now.bytes.now _ _ c.in_ok-record.ensures.cases c.args.self.now.readable).0

pub returns-clause-goes : goal.returns-clause-goes
returns-clause-goes c =
    let less = ap length (taken_off c.args.self.now.bytes.now _ _ c.in_ok-record.ensures.cases c.args.self.now.readable).0 in
    record { on = λ h. (tt, h, omega (arith, less)); keeps = tt; rests = λ h. tt }
