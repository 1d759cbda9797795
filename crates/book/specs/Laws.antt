-- What is proved of the rule book: it is decided by the presses alone.
use Rattle.std.specs.Prelude.{◌≡◌, ℕ, List}
use Rattle.book.specs.Rulebook.{Press, Answer, Pages, Rack, Refused, Answers, OneSettled, no_entry, Agree, asked, Cause, Enters, Run}

-- A press has at most one cause of refusal.
abbrev pub OneCause : Type 0
OneCause = (R : Rack) (pages : Pages) (p : Press) (number place number' place' : ℕ) → Cause R pages p number place → Cause R pages p number' place'
    → (number ≡ number') × (place ≡ place')

-- The pages decide what a press that is not refused says, if a rule has at most one settled patch.
abbrev pub OneAnswer : Type 0
OneAnswer = (R : Rack) → OneSettled R → (pages : Pages) (p : Press) (ans other : Answer) → ¬ Refused R pages p → Answers R pages p ans → Answers R pages p other → ans ≡ other

-- The presses decide every page, and a press that asks for no entry changes none.
abbrev pub OneReading : Type 0
OneReading = (R : Rack) (before after others : Pages) (ps : List Press) → Run R before ps after → Run R before ps others
    → (slot : ℕ) → Agree R (after slot) (others slot)

abbrev pub Quiet : Type 0
Quiet = (R : Rack) (before after : Pages) (p : Press) → Enters R before p after → asked R before p ≡ no_entry → (slot : ℕ) → Agree R (after slot) (before slot)
