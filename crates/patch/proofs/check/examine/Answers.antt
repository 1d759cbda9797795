use Rattle.std.proofs.Common.{◌∙◌}
use Rattle.std.proofs.lemmas.Result.{err_from_is_err_and}
use Rattle.patch.specs.Orders.{listed}
use Rattle.patch.proofs.Admitting.{examined_long, examined_broken, examined_records}
use Rattle.patch.proofs.check.examine.Goals as goal

pub returns-then-bytes-gt-MOST_BYTES : goal.returns-then-bytes-gt-MOST_BYTES
returns-then-bytes-gt-MOST_BYTES c = examined_long (listed c.args.setup.now.order) c.args.setup.now.places c.args.setup.now.codes c.args.bytes.now c.if-bytes-gt-MOST_BYTES.true

pub returns-then-bytes-ne0 : goal.returns-then-bytes-ne0
returns-then-bytes-ne0 c =
    examined_broken (listed c.args.setup.now.order) c.args.setup.now.places c.args.setup.now.codes c.args.bytes.now c.if-bytes-gt-MOST_BYTES.false c.if-bytes-ne0.true

pub returns-in_err-scan : goal.returns-in_err-scan
returns-in_err-scan c =
    let p = err_from_is_err_and c.from_residual.result c.from_residual.ensures.1 in
    let all = examined_records (listed c.args.setup.now.order) c.args.setup.now.places c.args.setup.now.codes c.args.bytes.now c.if-bytes-gt-MOST_BYTES.false c.if-bytes-ne0.false in
    rw (p.1, p.2) (all ∙ c.in_err-scan.ensures)

pub returns : goal.returns
returns c =
    examined_records (listed c.args.setup.now.order) c.args.setup.now.places c.args.setup.now.codes c.args.bytes.now c.if-bytes-gt-MOST_BYTES.false c.if-bytes-ne0.false
    ∙ c.in_ok-scan.ensures
