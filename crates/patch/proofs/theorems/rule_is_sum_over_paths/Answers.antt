use Rattle.std.proofs.Common.{[], length, arith}
use Rattle.patch.specs.Records.{records, declared, nth}
use Rattle.patch.specs.Paths.{bit, paths, off_from, starts}
use Rattle.patch.proofs.Bits as bts
use Rattle.patch.proofs.Facts as fac
use Rattle.patch.proofs.Listed as lis
use Rattle.patch.proofs.Numbers as num
use Rattle.patch.proofs.theorems.rule_is_sum_over_paths.Goals as goal

pub returns : goal.returns
returns c = record {
  listed = lis.listed;
  values = λ q plus times neg inv C order bytes o p s. num.rule_by_values C order (records bytes) (fac.facts order q bytes o p) (bit s);
  exist = λ q plus times neg inv C order bytes o p s. num.has_values C order (records bytes) (fac.facts order q bytes o p) (bit s);
  diagram = λ q plus times neg inv C order bytes o p s. num.rule_by_diagram C order (records bytes) (fac.facts order q bytes o p) (bit s);
  vectors = λ q plus times neg inv C order bytes o p t u.
      let A = fac.facts order q bytes o p in (
        num.sent_small C order (records bytes) A (off_from t) u,
        num.dif_small C order (records bytes) A t u,
        num.sent_small C order (records bytes) A starts u,
        num.off_later C order (records bytes) A t u,
        num.dif_later C order (records bytes) A t u,
      );
  parity = λ order bytes o p s.
      num.parity (records bytes) (λ k. num.code_small order 2 (declared [] (records bytes)) (nth (records bytes) k) (omega arith) ((fac.facts order 2 bytes o p).fine k))
      (paths (records bytes) (length order) (bit s));
  inputs = bts.settings_inputs;
  bits = λ s i v h. (bts.made_bit s i v h, bts.made_bits s i v h, bts.made_fits s i v h);
}
