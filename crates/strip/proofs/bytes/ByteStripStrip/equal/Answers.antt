use Rattle.std.proofs.Common.{◌≡◌, ℕ, ◌<◌, get_or, rules}
use Rattle.std.proofs.iter.runs.Made.{chains}
use Rattle.strip.specs.Bytes.{byte_code}
use Rattle.strip.proofs.ByteRows.{same_codes}
use Rattle.strip.proofs.bytes.ByteStripStrip.equal.Goals as goal

pub returns-clause-all : goal.returns-clause-all
returns-clause-all g c = λ e.
    let a = c.args.self.now.codes in
    let b = c.args.other.now.codes in
    let each : (k : ℕ) → k < 128 → byte_code g.C.Scale.model.q (get_or a k 0) ≡ byte_code g.C.Scale.model.q (get_or b k 0) = same_codes g.C.Scale.model.q a b e in
    search (rules, chains)
