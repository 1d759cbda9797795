use Rattle.std.proofs.Common.{[]}
use Rattle.patch.specs.Records.{records}
use Rattle.patch.proofs.Checked as chk
use Rattle.patch.proofs.Samples as sam
use Rattle.patch.proofs.Tables as tab
use Rattle.patch.proofs.theorems.check_finds_faults.Goals as goal

pub returns : goal.returns
returns c = record {
  checked = chk.checks_sound;
  length = chk.checks_length;
  refused = chk.checks_refused;
  tables = λ order pos some few listed placed. (tab.tables_order order pos some few listed placed, tab.position_is order pos some few listed placed);
  fours = λ bytes. (chk.records_length bytes, chk.records_nth bytes, chk.declared_take (records bytes) []);
  passed = chk.checks_passed;
  samples = sam.samples;
}
