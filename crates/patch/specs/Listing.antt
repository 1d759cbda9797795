-- The text of a listing and of a refusal's line, byte by byte. Assumes nothing.
use Rattle.std.specs.Prelude.{◌≡◌, ℕ, ◌<◌, ◌≤◌, List, [], ◌∷◌, ◌++◌, length, drop, codes, Result, MatchResult}
use Rattle.patch.specs.declared.refusal.Refusal.{Refusal}
use Rattle.patch.specs.declared.refusal.Refusal.TheVariants.{ShortOutput}
use Rattle.patch.specs.Output.{field}
use Rattle.patch.specs.Records.{Record, filler, cell, off, on, outlet, unmarked, unclean, declare}
use Rattle.patch.specs.Refusals.{number, place}

abbrev pub newline : List ℕ
newline = 10 ∷ []

-- from, to and code
abbrev pub arc : ℕ → ℕ → ℕ → List ℕ
arc f t c = field f ++ (field t ++ (field c ++ newline))

-- the line of a record, when n cells are declared up to it and with it
abbrev pub line : ℕ → Record → List ℕ
line n filler = []
line n (cell i) = codes "cell" ++ (field n ++ (codes " input" ++ (field i ++ newline)))
line n (off f t c) = codes "off" ++ arc f t c
line n (on f t c) = codes "on" ++ arc f t c
line n (outlet t c) = codes "out" ++ (field t ++ (field c ++ newline))
line n unmarked = []
line n unclean = []

-- the lines of some records, after others that declared cells
abbrev pub lines : List ℕ → List Record → List ℕ
lines cells [] = []
lines cells (r ∷ rs) = line (length (declare cells r)) r ++ lines (declare cells r) rs

abbrev pub or_silent : List ℕ → List ℕ
or_silent [] = codes "silent" ++ newline
or_silent (b ∷ text) = b ∷ text

abbrev pub listing_text : List Record → List ℕ
listing_text rs = or_silent (lines [] rs)

-- a refusal in words, and the line of it
abbrev pub refusal_words : Refusal → List ℕ
refusal_words e = codes "refused" ++ (field (number e) ++ field (place e))

abbrev pub refusal_text : Refusal → List ℕ
refusal_text e = refusal_words e ++ newline

-- a text was asked for in an output: it is put first and its length answered, or the output is too short and stays
abbrev pub Printed : List ℕ → List ℕ → Result ℕ Refusal → List ℕ → Type 0
Printed text out r after = MatchResult r (
    λ n. (n ≡ length text) × (length text ≤ length out) × (after ≡ text ++ drop (length text) out)) (
    λ e. (e ≡ ShortOutput) × (length out < length text) × (after ≡ out))

-- some records without the filler among them
abbrev pub solid : List Record → List Record
solid [] = []
solid (filler ∷ rs) = solid rs
solid (cell i ∷ rs) = cell i ∷ solid rs
solid (off f t c ∷ rs) = off f t c ∷ solid rs
solid (on f t c ∷ rs) = on f t c ∷ solid rs
solid (outlet t c ∷ rs) = outlet t c ∷ solid rs
solid (unmarked ∷ rs) = unmarked ∷ solid rs
solid (unclean ∷ rs) = unclean ∷ solid rs
