-- What is proved of canonical diagrams: they are smallest, each rule has one, and only one. Assumes nothing.
use Rattle.std.specs.Prelude.{◌≡◌, ℕ, ◌<◌, ◌≤◌}
use Rattle.linear.specs.Field.{Field}
use Rattle.linear.specs.Linear.{Independent}
use Rattle.diagram.specs.Canonical.{Echelon, CanonicalCells, Canonical, Local}
use Rattle.diagram.specs.Diagram.{Assignment, Diagram, Formed, val, rule}

-- The values of a diagram in echelon form are independent, those of its first b places too: so those of a position p or later.
abbrev pub IndependentCells : Type 0 → Type 0
IndependentCells K = (F : Field K) (n : ℕ) (D : Diagram K) → Echelon F n D → (b : ℕ) → b ≤ D.places → Independent F b (val F n D)

-- There is at most one proof that a diagram has canonical cells of f.
abbrev pub OneProof : Type 0 → Type 0
OneProof K = (F : Field K) (n : ℕ) (f : Assignment → K) (D : Diagram K) → IsProp (CanonicalCells F n f D)

-- No diagram of the rule f has fewer places than a diagram of canonical cells of f, all of them or the first few: with 32 of them, a rule is no diagram's with fewer cells.
abbrev pub Smallest : Type 0 → Type 0
Smallest K = (F : Field K) (n : ℕ) (f : Assignment → K) (D E : Diagram K) → CanonicalCells F n f D → Formed F n E → ((a : Assignment) → rule F n E a ≡ f a) → D.places ≤ E.places

-- two diagrams are the same, on the places that they have
pub record Same {K : Type 0} (P Q : Diagram K) : Type 0 where
  pub places : P.places ≡ Q.places
  pub pos : (j : ℕ) → j < P.places → P.pos j ≡ Q.pos j
  pub dif : (j t : ℕ) → j < P.places → t < P.places → P.dif j t ≡ Q.dif j t
  pub out : (t : ℕ) → t < P.places → P.out t ≡ Q.out t

-- Canonical diagrams whose rules agree are the same.
abbrev pub UniqueDiagram : Type 0 → Type 0
UniqueDiagram K = (F : Field K) (n : ℕ) (P Q : Diagram K) → Canonical F n P → Canonical F n Q → ((a : Assignment) → rule F n P a ≡ rule F n Q a) → Same P Q

-- A diagram in echelon form with the rule of a canonical one and no more places is the canonical one: smallness does for being derived.
abbrev pub UniqueSmallest : Type 0 → Type 0
UniqueSmallest K = (F : Field K) (n : ℕ) (P Q : Diagram K) → Canonical F n P → Echelon F n Q → Q.places ≤ P.places → ((a : Assignment) → rule F n P a ≡ rule F n Q a) → Same P Q

-- Each rule that looks at the positions below n only has a canonical diagram.
abbrev pub Existing : Type 0 → Type 0
Existing K = (F : Field K) (n : ℕ) (f : Assignment → K) → Local n f → (C : Diagram K) × Canonical F n C × ((a : Assignment) → rule F n C a ≡ f a)
