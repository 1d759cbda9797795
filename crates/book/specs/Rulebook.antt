-- The rule book: it is fed the arguments of the panel calls in order, and no answer. Assumes nothing.
use Rattle.std.specs.Prelude.{◌≡◌, ℕ, ◌^◌, ◌<◌, Bool, cond, ◌||◌, T, ◌↔◌, List, [], ◌∷◌, length, ◌==◌, nat_le, nat_lt}
use Rattle.patch.specs.Records.{records, cells_of}
use Rattle.patch.specs.Faults.{Verdict, passed, refused, check_patch, Patch}
use Rattle.patch.specs.Paths.{rule}
use Rattle.patch.specs.Settings.{made}
use Rattle.patch.specs.Settled.{Settled}

-- The panel calls, with what a cause of refusal or an entry can depend on: of working strips and of an output, their number.
pub data Press : Type 0 where
  -- slot, patch, working strips
  load : ℕ → List ℕ → ℕ → Press
  -- to, a, b, working strips
  lay : ℕ → ℕ → ℕ → ℕ → Press
  -- to, a, code
  weigh : ℕ → ℕ → ℕ → Press
  -- to, a, input, v, working strips
  tie : ℕ → ℕ → ℕ → ℕ → ℕ → Press
  -- a, b
  same : ℕ → ℕ → Press
  -- a
  cells : ℕ → Press
  -- a, setting
  sound : ℕ → ℕ → Press
  -- a, length of the output
  write : ℕ → ℕ → Press

-- what a call says
pub data Answer : Type 0 where
  done : Answer
  agree : Bool → Answer
  count : ℕ → Answer
  -- code, velocity
  heard : ℕ → ℕ → Answer
  -- what is put first in the output; its length is the answer
  wrote : List ℕ → Answer
  -- number, place
  refusal : ℕ → ℕ → Answer

-- a rule gives a code for each setting, and each slot has a page with a rule
abbrev pub Rule : Type 0
Rule = ℕ → ℕ

abbrev pub Pages : Type 0
Pages = ℕ → Rule

abbrev pub silent : Pages
silent slot setting = 0

-- an entry on a page
pub data Entry : Type 0 where
  no_entry : Entry
  entry : ℕ → Rule → Entry

abbrev pub entered : Pages → Entry → Pages
entered pages no_entry slot = pages slot
entered pages (entry to f) slot = cond (slot == to) f (pages slot)

-- what a rack is opened with: its slots, its scan order, its strips' places, its scale
pub record Rack : Type 0 where
  pub slots : ℕ
  pub order : List ℕ
  pub places : ℕ
  pub codes : ℕ
  pub plus : ℕ → ℕ → ℕ
  pub times : ℕ → ℕ → ℕ
  pub velocity : ℕ → ℕ

module _ (R : Rack) where
  open R use {slots, order, places, codes, plus, times, velocity}

  -- two rules agree at every setting
  abbrev pub Agree : Rule → Rule → Type 0
  Agree f g = (setting : ℕ) → setting < 2 ^ length order → f setting ≡ g setting

  -- bytes are a patch of a rule
  abbrev pub PatchOf : Rule → List ℕ → Type 0
  PatchOf f bytes = Patch order codes bytes × Agree (rule plus times order bytes) f

  -- and its settled patch
  abbrev pub SettledOf : Rule → List ℕ → Type 0
  SettledOf f bytes = Settled codes plus times order bytes × Agree (rule plus times order bytes) f

  -- the checks of a press but for 9 and 19, in their order
  abbrev pub early : Press → Verdict
  early (load s patch work) =
      cond (nat_le slots s) (refused 4 0) (
      cond (nat_lt work 512) (refused 8 0) (cond (nat_lt 65536 (length patch)) (refused 10 0) (check_patch order places codes patch)))
  early (lay to a b work) = cond (nat_le slots to || nat_le slots a || nat_le slots b) (refused 4 0) (cond (nat_lt work 512) (refused 8 0) passed)
  early (weigh to a c) = cond (nat_le slots to || nat_le slots a) (refused 4 0) (cond (nat_le codes c) (refused 6 0) passed)
  early (tie to a i v work) =
      cond (nat_le slots to || nat_le slots a) (refused 4 0) (
      cond (nat_le (length order) i || nat_lt 1 v) (refused 5 0) (cond (nat_lt work 512) (refused 8 0) passed))
  early (same a b) = cond (nat_le slots a || nat_le slots b) (refused 4 0) passed
  early (cells a) = cond (nat_le slots a) (refused 4 0) passed
  early (sound a setting) = cond (nat_le slots a) (refused 4 0) (cond (nat_le (2 ^ length order) setting) (refused 7 0) passed)
  early (write a room) = cond (nat_le slots a) (refused 4 0) passed

  -- what a press would enter if it were not refused: the asked rule, on its page
  abbrev pub asked : Pages → Press → Entry
  asked pages (load s patch work) = entry s (rule plus times order patch)
  asked pages (lay to a b work) = entry to (λ x. plus (pages a x) (pages b x))
  asked pages (weigh to a c) = entry to (λ x. times c (pages a x))
  asked pages (tie to a i v work) = entry to (λ x. pages a (made x i v))
  asked pages (same a b) = no_entry
  asked pages (cells a) = no_entry
  asked pages (sound a setting) = no_entry
  asked pages (write a room) = no_entry

  -- Causes of refusal: a number, and a place.
  pub data Cause (pages : Pages) : Press → ℕ → ℕ → Type 0 where
    at_once : {p : Press} {number place : ℕ} → early p ≡ refused number place → Cause pages p number place
    -- 9: the output is too short for the settled bytes
    too_short : {a room : ℕ} {bytes : List ℕ} → early (write a room) ≡ passed → SettledOf (pages a) bytes → room < length bytes → Cause pages (write a room) 9 0
    -- 19: every patch of the asked rule has more than 31 cells
    too_many : {p : Press} (slot : ℕ) (f : Rule) → early p ≡ passed → asked pages p ≡ entry slot f
        → ((bytes : List ℕ) → PatchOf f bytes → 31 < cells_of (records bytes)) → Cause pages p 19 0

  abbrev pub Refused : Pages → Press → Type 0
  Refused pages p = (number : ℕ) × (place : ℕ) × Cause pages p number place

  -- What a press enters: with a cause of refusal nothing, and otherwise what it asks for.
  pub record Enters (before : Pages) (p : Press) (after : Pages) : Type 0 where
    pub refused_stays : Refused before p → (slot : ℕ) → Agree (after slot) (before slot)
    pub accepted_enters : ¬ Refused before p → (slot : ℕ) → Agree (after slot) (entered before (asked before p) slot)

  -- the pages after some presses, the first one first
  pub data Run : Pages → List Press → Pages → Type 0 where
    none : {pages : Pages} → Run pages [] pages
    more : {before between after : Pages} {p : Press} {ps : List Press} → Enters before p between → Run between ps after → Run before (p ∷ ps) after

  -- What a press without a cause of refusal answers, from the pages as they stood.
  abbrev pub Says : Pages → Press → Answer → Type 0
  Says pages (load s patch work) ans = ans ≡ done
  Says pages (lay to a b work) ans = ans ≡ done
  Says pages (weigh to a c) ans = ans ≡ done
  Says pages (tie to a i v work) ans = ans ≡ done
  Says pages (same a b) ans = (yes : Bool) × (ans ≡ agree yes) × (T yes ↔ Agree (pages a) (pages b))
  Says pages (cells a) ans = (bytes : List ℕ) × SettledOf (pages a) bytes × (ans ≡ count (cells_of (records bytes)))
  Says pages (sound a setting) ans = ans ≡ heard (pages a setting) (velocity (pages a setting))
  Says pages (write a room) ans = (bytes : List ℕ) × SettledOf (pages a) bytes × (ans ≡ wrote bytes)

  pub record Answers (pages : Pages) (p : Press) (ans : Answer) : Type 0 where
    pub refused_says : (number place : ℕ) → Cause pages p number place → ans ≡ refusal number place
    pub accepted_says : ¬ Refused pages p → Says pages p ans

  -- a rule has at most one settled patch
  abbrev pub OneSettled : Type 0
  OneSettled = (f : Rule) (bytes others : List ℕ) → SettledOf f bytes → SettledOf f others → bytes ≡ others
