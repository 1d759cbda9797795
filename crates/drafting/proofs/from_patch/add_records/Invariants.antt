use Rattle.patch.specs.Records.{records}
use Rattle.patch.specs.Windows.{seen, records_left}
use Rattle.settling.specs.Settling.{Sound}
use Rattle.drafting.specs.Arcs.{spots}
use Rattle.drafting.specs.Drafts.{draft_of}
use Rattle.drafting.proofs.Adding.{Adding}
use Rattle.drafting.proofs.from_patch.add_records.Given as goal

abbrev pub invariant-loop-record : goal.invariant-loop-record
invariant-loop-record g l =
    let s = g.S.Strip in
    record {
      sound : Sound s.code s.len l.work (draft_of l.plan l.out);
      sums : Adding g.S.Codes.Scale.model s.code (spots l.plan) (records (seen l.patch)) l.plan.places.cells l.work (s.code l.out) (records_left l.record-iterator);
    }
