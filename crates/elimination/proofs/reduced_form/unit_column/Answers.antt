use Rattle.std.proofs.Common.{◌≡◌, ℕ, ◌<◌, ◌≢◌, length, ◌∙◌}
use Rattle.strip.specs.Row.{Row}
use Rattle.elimination.specs.Arithmetic.{arithmetic}
use Rattle.elimination.specs.Rows.{rows_in, Echelon}
use Rattle.elimination.proofs.Tables.{row_coded}
use Rattle.elimination.proofs.Sums.{zero_code}
use Rattle.elimination.proofs.Tidying.{same_trans, unit_is_one, unit_shape, unit_span, unit_tidy, sweep_shape, sweep_span, sweep_tidy}
use Rattle.elimination.proofs.reduced_form.unit_column.Goals as goal

pub returns-then-pivot-ne0 : goal.returns-then-pivot-ne0
returns-then-pivot-ne0 g c =
    let s = g.S.Strip in
    let F = arithmetic g.S.Codes.Scale.model in
    let n = length c.args.table.now in
    let h = c.args.h in
    let l : h < n = c.requires.below in
    let w₀ = c.args.table.now in
    let w₁ = c.unit_head.new.table in
    let w₂ = c.clear_column.new.table in
    let R₀ : ℕ → Row = rows_in s.code w₀ in
    let R₁ : ℕ → Row = rows_in s.code w₁ in
    let R₂ : ℕ → Row = rows_in s.code w₂ in
    let same : length w₂ ≡ n = c.clear_column.auto.table ∙ c.unit_head.auto.table in
    let coded = row_coded s.code F.q (zero_code F) g.met.S.Strip.coded in
    let filled : R₀ h h ≢ 0 = λ e. c.if-pivot-ne0.true (c.pivot.ensures ∙ e) in
    let set = c.unit_head.ensures in
    let swept = c.clear_column.ensures in
    let shape₁ : Echelon n R₁ = unit_shape F n R₀ R₁ (coded w₀) (coded w₁) c.requires.shape h l filled set in
    record {
      shape = rw same (sweep_shape F n R₁ R₂ (coded w₁) (coded w₂) shape₁ h l swept);
      tidy = rw same (sweep_tidy F n R₁ R₂ (coded w₁) (coded w₂) shape₁ h l swept
          (unit_is_one F n R₀ R₁ (coded w₀) (coded w₁) c.requires.shape h l filled set)
          (unit_tidy F n R₀ R₁ (coded w₀) (coded w₁) c.requires.shape h l filled set c.requires.tidy));
      span = same_trans F n R₀ R₁ R₂ (unit_span F n R₀ R₁ (coded w₀) (coded w₁) c.requires.shape h l filled set)
          (sweep_span F n R₁ R₂ (coded w₁) (coded w₂) shape₁ h l swept);
    }
