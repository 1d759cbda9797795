-- What a window on some bytes promises. Assumes nothing.
use Rattle.std.specs.Prelude.{◌≡◌, ℕ, Bool, true, false, cond, List, length, nat_lt}
use Rattle.patch.specs.Faults.{Verdict, passed, refused, check_patch, Bytes}

-- the whole check: at most 65,536 bytes, then the length and the records
unfoldable pub examined : List ℕ → ℕ → ℕ → List ℕ → Verdict
examined order L q bytes = cond (nat_lt 65536 (length bytes)) (refused 10 0) (check_patch order L q bytes)

abbrev pub passes : Verdict → Bool
passes passed = true
passes (refused number place) = false

-- bytes that pass the check for a scan order, L places and q codes
abbrev pub Admitted : List ℕ → ℕ → ℕ → List ℕ → Type 0
Admitted order L q bytes = Bytes bytes × (passes (examined order L q bytes) ≡ true)
