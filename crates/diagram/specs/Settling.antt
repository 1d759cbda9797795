-- What is proved of the two passes that turn a diagram into the canonical one (specs/Passes). Assumes nothing.
use Rattle.std.specs.Prelude.{◌≡◌, ℕ, suc, ◌<◌, ◌≤◌, Bool}
use Rattle.linear.specs.Field.{Field}
use Rattle.linear.specs.Linear.{comb, Reduced, SpannedOn}
use Rattle.diagram.specs.Canonical.{Derived, Canonical}
use Rattle.diagram.specs.Diagram.{Assignment, Diagram, Formed, val, rule}
use Rattle.diagram.specs.Packed.{count, nth, Tidy}
use Rattle.diagram.specs.Passes.{rowed, rest, gain, Trims, Extends, Built, Imaged, Rows, Images}

-- Forward: the new diagram's values are the rows R over the old one's, and its rule is the old one's.
abbrev pub Trimmed : Type 0 → Type 0
Trimmed K = (F : Field K) (n : ℕ) (D : Diagram K) (R off dif : ℕ → ℕ → K) (out : ℕ → K) → Formed F n D → Trims F n D R off dif out
    → Formed F n (rowed D off dif out)
    × ((h : ℕ) → h < D.places → (a : Assignment) → val F n (rowed D off dif out) h a ≡ comb F D.places (R h) (val F n D) a)
    × ((a : Assignment) → rule F n (rowed D off dif out) a ≡ rule F n D a)

-- A row whose function is derived at p splits there, and what it is where p reads 0, and what it gains where p reads 1, are derived at the next position.
abbrev pub Splits : Type 0 → Type 0
Splits K = (F : Field K) (n : ℕ) (D : Diagram K) (f : Assignment → K) (p : ℕ) (r : ℕ → K) → Formed F n D → p < n → ((u : ℕ) → u < D.places → D.pos u < p → r u ≡ F.zero)
    → Derived F f p (comb F D.places r (val F n D))
    → Derived F f (suc p) (comb F D.places (rest F D p r) (val F n D)) × Derived F f (suc p) (comb F D.places (gain F D p r) (val F n D))

-- A derived row is derived at the first position that it has an entry at.
abbrev pub LiftedRow : Type 0 → Type 0
LiftedRow K = (F : Field K) (n : ℕ) (D : Diagram K) (f : Assignment → K) (p q : ℕ) (r : ℕ → K) → Formed F n D → p ≤ q
    → ((u : ℕ) → u < D.places → D.pos u < q → r u ≡ F.zero) → Derived F f p (comb F D.places r (val F n D)) → Derived F f q (comb F D.places r (val F n D))

-- Sums and multiples of derived rows are derived.
abbrev pub SummedRow : Type 0 → Type 0
SummedRow K = (F : Field K) (n : ℕ) (D : Diagram K) (f : Assignment → K) (p : ℕ) (v w : ℕ → K) (c : K) → Formed F n D
    → Derived F f p (comb F D.places v (val F n D)) → Derived F f p (comb F D.places w (val F n D))
    → Derived F f p (comb F D.places (λ u. F.plus (v u) (F.times c (w u))) (val F n D))

-- A blank row is derived anywhere.
abbrev pub BlankRow : Type 0 → Type 0
BlankRow K = (F : Field K) (n : ℕ) (D : Diagram K) (f : Assignment → K) (p : ℕ) (r : ℕ → K) → ((u : ℕ) → u < D.places → r u ≡ F.zero) → Derived F f p (comb F D.places r (val F n D))

-- The rows of a table that stand at their heads, listed, are reduced and span as much.
abbrev pub Listed : Type 0 → Type 0
Listed K = (F : Field K) (w : ℕ) (b : ℕ → Bool) (T : ℕ → ℕ → K) → Tidy F w b T
    → Reduced F (count b w) (λ i. T (nth b w i)) (nth b w)
    × ((i : ℕ) → i < count b w → nth b w i < w)
    × ((d : ℕ → K) → SpannedOn F (λ t. t < w) w T d → SpannedOn F (λ t. t < w) (count b w) (λ i. T (nth b w i)) d)

-- Backward, at the start: the steady place alone.
abbrev pub Started : Type 0 → Type 0
Started K = (F : Field K) (n : ℕ) (f : Assignment → K) (D C : Diagram K) (img : ℕ → ℕ → K) → Formed F n D → C.places ≡ 1 → C.pos 0 ≡ n → C.off 0 0 ≡ F.zero → C.dif 0 0 ≡ F.zero
    → ((h : ℕ) → h < D.places → n ≤ D.pos h → img h 0 ≡ F.one) → Built F n f C n × Imaged F n D C n img

-- Backward, at one position p: with the reduced rows of the gains for its cells, the canonical cells of f from p on are built, and D's places from p on have images over them.
abbrev pub Stepped : Type 0 → Type 0
Stepped K = (F : Field K) (n : ℕ) (f : Assignment → K) (D C C' : Diagram K) (p m : ℕ) (T : ℕ → ℕ → K) (g : ℕ → ℕ) (img img' : ℕ → ℕ → K) → Formed F n D → p < n
    → Built F n f C (suc p) → Imaged F n D C (suc p) img → ((h : ℕ) → h < D.places → D.pos h ≡ p → Derived F f p (val F n D h))
    → Rows F D C p m T g img → Extends F C C' p m T
    → Built F n f C' p
    × (Images F D C p m g img img'
    → ((h : ℕ) → h < D.places → D.pos h ≡ p → SpannedOn F (λ u. u < C.places) m T (λ u. comb F D.places (D.dif h) img u)) → Imaged F n D C' p img')

-- Backward, at the end: with the outlet's image the diagram is canonical and has D's rule.
abbrev pub Finished : Type 0 → Type 0
Finished K = (F : Field K) (n : ℕ) (f : Assignment → K) (D C : Diagram K) (img : ℕ → ℕ → K) → Built F n f C 0 → Imaged F n D C 0 img → ((a : Assignment) → rule F n D a ≡ f a)
    → ((u : ℕ) → u < C.places → C.out u ≡ comb F D.places D.out img u) → Canonical F n C × ((a : Assignment) → rule F n C a ≡ rule F n D a)

-- No diagram of the rule f has fewer places than the cells built so far: if they are too many, so are those of every diagram.
abbrev pub TooMany : Type 0 → Type 0
TooMany K = (F : Field K) (n : ℕ) (f : Assignment → K) (C E : Diagram K) (p : ℕ) → Built F n f C p → Formed F n E → ((a : Assignment) → rule F n E a ≡ f a) → C.places ≤ E.places

-- Of the rows of a position any first few do for that.
abbrev pub Fewer : Type 0 → Type 0
Fewer K = (F : Field K) (D C : Diagram K) (p m k : ℕ) (T : ℕ → ℕ → K) (g : ℕ → ℕ) (img : ℕ → ℕ → K) → k ≤ m → Rows F D C p m T g img → Rows F D C p k T g img
