-- What is proved of the values of a diagram and of the functions derived from its rule. Assumes nothing.
use Rattle.std.specs.Prelude.{◌≡◌, ℕ, ◌<◌, ◌≤◌, false}
use Rattle.linear.specs.Field.{Field}
use Rattle.linear.specs.Linear.{comb}
use Rattle.diagram.specs.Canonical.{Derived, Within, Local}
use Rattle.diagram.specs.Diagram.{Assignment, turn, bit, Diagram, Formed, val, rule}

-- The value of the steady place is one, and each other place is worth its rows.
abbrev pub Opened : Type 0 → Type 0
Opened K = (F : Field K) (n : ℕ) (D : Diagram K) → Formed F n D
    → ((t : ℕ) → n ≤ D.pos t → (a : Assignment) → val F n D t a ≡ F.one)
    × ((t : ℕ) → t < D.places → D.pos t < n → (a : Assignment)
    → val F n D t a ≡ F.plus (comb F D.places (D.off t) (val F n D) a) (F.times (bit F (a (D.pos t))) (comb F D.places (D.dif t) (val F n D) a)))

-- The rule of a diagram looks at the positions below n only.
abbrev pub RuleLocal : Type 0 → Type 0
RuleLocal K = (F : Field K) (n : ℕ) (D : Diagram K) → Formed F n D → Local n (rule F n D)

-- What is derived from a diagram's rule at p is a combination of its values from p on.
abbrev pub Combined : Type 0 → Type 0
Combined K = (F : Field K) (n : ℕ) (E : Diagram K) (f : Assignment → K) → Formed F n E → ((a : Assignment) → rule F n E a ≡ f a)
    → (p : ℕ) (g : Assignment → K) → Derived F f p g → Within F n E p g

-- What is derived at p and does not look at the positions p .. r - 1 is derived at r.
abbrev pub Lifted : Type 0 → Type 0
Lifted K = (F : Field K) (f g : Assignment → K) (p r : ℕ) → p ≤ r → ((q : ℕ) → p ≤ q → q < r → (a : Assignment) → g (turn q false a) ≡ g a) → Derived F f p g → Derived F f r g
