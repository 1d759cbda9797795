-- What a scan order lists, and what arranging one answers. Assumes nothing.
use Rattle.std.specs.Prelude.{◌≡◌, ℕ, ◌<◌, ◌≤◌, ◌⊎◌, List, length, take, Result, MatchResult}
use Rattle.patch.specs.declared.order.ScanOrder.{ScanOrder}
use Rattle.patch.specs.declared.refusal.Refusal.{Refusal}
use Rattle.patch.specs.declared.refusal.Refusal.TheVariants.{InputCount, InputList}
use Rattle.patch.specs.Undoes.{EachOnce}

-- the inputs in the order of reading
abbrev pub listed : ScanOrder → List ℕ
listed s = take s.count s.inputs

-- why a list is refused: its length, or that it does not hold each input once
pub data Unlisted (list : List ℕ) : Refusal → Type 0 where
  miscounted : (length list ≡ 0) ⊎ (24 < length list) → Unlisted list InputCount
  mislisted : 1 ≤ length list → length list ≤ 24 → (EachOnce list → ⊥) → Unlisted list InputList

-- arranged by a list: the list is taken over, or refused and nothing is changed
pub record Taken (list : List ℕ) (after : ScanOrder) : Type 0 where
  pub some : 1 ≤ length list
  pub few : length list ≤ 24
  pub once : EachOnce list
  pub is : listed after ≡ list

abbrev pub Arranged : List ℕ → ScanOrder → Result (Unit {0}) Refusal → ScanOrder → Type 0
Arranged list before r after = MatchResult r (λ _. Taken list after) (λ e. (after ≡ before) × Unlisted list e)
