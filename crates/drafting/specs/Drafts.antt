-- Rows of a draft, and what holds of every draft that is laid out.
use Rattle.std.specs.Prelude.{◌≡◌, ℕ, ◌<◌, ◌≤◌, ◌≢◌, List}
use Rattle.scale.specs.Model.{ScaleModel}
use Rattle.elimination.specs.Rows.{Rows}
use Rattle.settling.specs.declared.draft.Draft.{Draft}
use Rattle.strip.specs.Row.{Row, zeros}
use Rattle.drafting.specs.declared.plan.Plan.{Plan}

-- the row g is f with the code c added at a place
pub record AddedAt (M : ScaleModel) (len : ℕ) (f : Row) (place c : ℕ) (g : Row) : Type 0 where
  pub here : place < len → c < M.q → g place ≡ M.plus (f place) c
  pub rest : (p : ℕ) → (p ≢ place) → g p ≡ f p

-- the rows R' are R with the code c added to row h at a place
pub record AddedIn (M : ScaleModel) (len : ℕ) (R : ℕ → Row) (h place c : ℕ) (R' : ℕ → Row) : Type 0 where
  pub row : AddedAt M len (R h) place c (R' h)
  pub rest : (k : ℕ) → (k ≢ h) → R' k ≡ R k

-- the rows of the places 0 to m are blank
pub record Blank {S : Type 0} (code : S → Row) (work : List S) (m : ℕ) : Type 0 where
  pub off : (h : ℕ) → h ≤ m → Rows code work 0 h ≡ zeros
  pub dif : (h : ℕ) → h ≤ m → Rows code work 128 h ≡ zeros

-- the draft that a plan's places and an outlet make
abbrev pub draft_of : {S : Type 0} → Plan → S → Draft S
draft_of plan out = record { places = plan.places; out = out }

-- the row f holds nothing past the place m
abbrev pub Ends : ℕ → Row → Type 0
Ends m f = (p : ℕ) → m < p → f p ≡ 0
