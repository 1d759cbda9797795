use Rattle.std.proofs.Common.{rules, ◌<◌, ap, arith}
use Rattle.elimination.specs.Lift.{some_code}
use Rattle.patch.specs.Judging.{meant}
use Rattle.patch.specs.Paths.{code}
use Rattle.patch.specs.Windows.{seen}
use Rattle.strip.specs.Row.{Row}
use Rattle.drafting.proofs.Adding.{summed_none, adding_starts, adding_next, adding_more}
use Rattle.drafting.proofs.Declaring.{record_code}
use Rattle.drafting.proofs.from_patch.add_records.Goals as goal

pub loop-record-init : goal.loop-record-init
loop-record-init g c =
    rw (c.into_iter-record-iterator.ensures.into_iter_gives, c.records-records.ensures) (
    record {
      sound = record { within = c.requires.within; bounded = c.requires.bounded; outlet = λ p l. ap (λ (r : Row). r p) c.blank-out.ensures };
      sums = adding_starts (summed_none g.S.Codes.Scale.model g.S.Strip.code _ _ _ _ _ c.requires.blank c.blank-out.ensures);
    })

pub add_record-requires : goal.add_record-requires
add_record-requires g c =
    let patch = c.args.patch.now in
    let S = c.loop-record.invariant.sums in
    let e = c.in-Some.record in
    let some : 0 < patch.setup.codes = omega (arith, c.requires.codes, some_code g.S.Codes.Scale.model) in
    let low : code (meant e) < patch.setup.codes =
    record_code patch.setup.order patch.setup.places patch.setup.codes (seen patch) some patch.admitted S.k (meant e) (adding_next S (meant e) _ c.in-Some.ensures.steps) in
    (search rules, (omega (arith, low, c.requires.codes), c.loop-record.invariant.sound))

pub loop-record-preserved : goal.loop-record-preserved
loop-record-preserved g c = record {
  sound = c.add_record.ensures.sound;
  sums =
      adding_more c.loop-record.invariant.sums (meant c.in-Some.record) _ c.in-Some.ensures.steps c.args.plan.now.places.few _ _ c.add_record.ensures.entered;
}
