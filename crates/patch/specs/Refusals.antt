-- The numbers and places of refusals. Assumes nothing.
use Rattle.std.specs.Prelude.{◌≡◌, ℕ, Ok, Err, Result}
use Rattle.patch.specs.declared.refusal.Refusal.{Refusal}
use Rattle.patch.specs.declared.refusal.Refusal.TheVariants.{InputCount, InputList, FewStrips, NoSlot, TieRange, NoCode, SettingRange, FewWorkingStrips, ShortOutput, LongPatch, BrokenRecord, UnknownMark, NotZero, CellInput, CellLimit, UnknownCell, NotLater, ArcCode, TooManyCells}
use Rattle.patch.specs.Faults.{Verdict, passed, refused}

abbrev pub number : Refusal → ℕ
number InputCount = 1
number InputList = 2
number FewStrips = 3
number NoSlot = 4
number TieRange = 5
number NoCode = 6
number SettingRange = 7
number FewWorkingStrips = 8
number ShortOutput = 9
number LongPatch = 10
number BrokenRecord = 11
number (UnknownMark k) = 12
number (NotZero k) = 13
number (CellInput k) = 14
number (CellLimit k) = 15
number (UnknownCell k) = 16
number (NotLater k) = 17
number (ArcCode k) = 18
number TooManyCells = 19

-- the faulty record, counted from 0, for those that blame one
abbrev pub place : Refusal → ℕ
place InputCount = 0
place InputList = 0
place FewStrips = 0
place NoSlot = 0
place TieRange = 0
place NoCode = 0
place SettingRange = 0
place FewWorkingStrips = 0
place ShortOutput = 0
place LongPatch = 0
place BrokenRecord = 0
place (UnknownMark k) = k
place (NotZero k) = k
place (CellInput k) = k
place (CellLimit k) = k
place (UnknownCell k) = k
place (NotLater k) = k
place (ArcCode k) = k
place TooManyCells = 0

-- an answer that says exactly a verdict
abbrev pub Tells : Result (Unit {0}) Refusal → Verdict → Type 0
Tells (Ok done) v = v ≡ passed
Tells (Err e) v = v ≡ refused (number e) (place e)
