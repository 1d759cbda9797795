use Rattle.std.proofs.Common.{◌≡◌, ◌+◌, drop}
use Rattle.patch.specs.Output.{laid}
use Rattle.patch.proofs.text.Output.text.Given as goal

abbrev pub invariant-loop-b : goal.invariant-loop-b
invariant-loop-b l =
    (l.end ≡ l.initial.self.at + l.b-index)
    × (l.self.out.ghost_name ≡ l.initial.self.out.ghost_name)
    × (laid l.self.out.now l.end (drop l.b-index l.text) ≡ laid l.initial.self.out.now l.initial.self.at l.text)
