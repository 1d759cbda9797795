-- The backward pass underway: the canonical cells made so far stand from strip 288 on, with their positions in a list; a table of rows by
-- head stands from strip 256 on, and the images of the places, over the canonical cells, from strip 384 on.
use Rattle.std.specs.Prelude.{◌≡◌, ℕ, ◌+◌, ◌<◌, ◌≤◌, Bool, true, false, ◌≢◌, List, slice_index}
use Rattle.std.proofs.Math.Decide.{ℕ_discrete}
use Rattle.linear.specs.Linear.{comb}
use Rattle.diagram.specs.Canonical.{Derived, Canonical}
use Rattle.diagram.specs.Diagram.{Assignment, Diagram, Formed, val, rule}
use Rattle.diagram.specs.Packed.{count, nth}
use Rattle.diagram.specs.Passes.{Built}
use Rattle.scale.specs.Model.{ScaleModel}
use Rattle.elimination.specs.Lift.{Element, scalars, vec, Grid, part, Inside}
use Rattle.strip.specs.Row.{Row}
use Rattle.elimination.specs.Rows.{Rows}
use Rattle.settling.specs.declared.draft.FormPlaces.{FormPlaces}
use Rattle.settling.specs.declared.draft.Places.{Places}
use Rattle.settling.specs.Draft.{drawn}

-- the cells 1 .. size - 1, and the steady place 0
abbrev pub celled : (M : ScaleModel) → {S : Type 0} → (S → Row) → List S → List ℕ → ℕ → (ℕ → Element M) → Diagram (Element M)
celled M code work cpos size out = record { places = size; pos = λ j. slice_index cpos j; off = λ _ _. (scalars M).zero; dif = Grid M code work 288; out = out }

-- what h's image and gain are, over the images of the places from e on
pub record Pictured (M : ScaleModel) {S : Type 0} (code : S → Row) (w : List S) (w' : List S) (m e h : ℕ) : Type 0 where
  pub img : (p : ℕ) → Grid M code w' 384 h p ≡ part M (Grid M code w 0 h) (Grid M code w 384) e (m + 1) p
  pub dif : (p : ℕ) → Grid M code w' 128 h p ≡ part M (Grid M code w 128 h) (Grid M code w 384) e (m + 1) p

-- the places a .. h - 1 have theirs, and nothing else is changed
pub record Images (M : ScaleModel) {S : Type 0} (code : S → Row) (w : List S) (w' : List S) (m a e h : ℕ) : Type 0 where
  pub done : (k : ℕ) → a ≤ k → k < h → Pictured M code w w' m e k
  pub img_later : (k : ℕ) → h ≤ k → Rows code w' 384 k ≡ Rows code w 384 k
  pub dif_later : (k : ℕ) → h ≤ k → k < 128 → Rows code w' 128 k ≡ Rows code w 128 k
  pub dif_before : (k : ℕ) → k < a → Rows code w' 128 k ≡ Rows code w 128 k
  pub off : (k : ℕ) → k < 128 → Rows code w' 0 k ≡ Rows code w 0 k
  pub tab : (b k : ℕ) → 256 ≤ b + k → b + k < 384 → Rows code w' b k ≡ Rows code w b k

-- the table has a row at k
unfoldable pub filled : (ℕ → Row) → ℕ → Bool
filled R k = elim (ℕ_discrete (R k k) 0) [ yes _ ↦ false | no _ ↦ true ]

-- how many of the first k rows it has
abbrev pub rows : (ℕ → Row) → ℕ → ℕ
rows R k = count (filled R) k

-- the images of the places a .. h - 1 have what their gains hold at k for their entry at j
pub record Marked {S : Type 0} (code : S → Row) (w : List S) (w' : List S) (a h k j : ℕ) : Type 0 where
  pub here : (i : ℕ) → a ≤ i → i < h → Rows code w' 384 i j ≡ Rows code w 128 i k
  pub rest : (i q : ℕ) → a ≤ i → i < h → q ≢ j → Rows code w' 384 i q ≡ Rows code w 384 i q
  pub later : (i : ℕ) → h ≤ i → Rows code w' 384 i ≡ Rows code w 384 i
  pub before : (b i : ℕ) → b + i < 384 → Rows code w' b i ≡ Rows code w b i

-- the row at k of the table is the cell j
pub record Added {S : Type 0} (code : S → Row) (w : List S) (w' : List S) (a e k j : ℕ) : Type 0 where
  pub can_here : Rows code w' 288 j ≡ Rows code w 256 k
  pub can_rest : (i : ℕ) → i < 96 → i ≢ j → Rows code w' 288 i ≡ Rows code w 288 i
  pub img_here : (h : ℕ) → a ≤ h → h < e → Rows code w' 384 h j ≡ Rows code w 128 h k
  pub img_rest : (h q : ℕ) → a ≤ h → h < e → q ≢ j → Rows code w' 384 h q ≡ Rows code w 384 h q
  pub img_other : (h : ℕ) → e ≤ h → Rows code w' 384 h ≡ Rows code w 384 h
  pub tab : (i : ℕ) → i < 32 → Rows code w' 256 i ≡ Rows code w 256 i
  pub off : (i : ℕ) → i < 128 → Rows code w' 0 i ≡ Rows code w 0 i
  pub dif : (i : ℕ) → i < 128 → Rows code w' 128 i ≡ Rows code w 128 i

-- the rows below k of the table are the cells size .. j - 1, of position p
pub record Numbered {S : Type 0} (code : S → Row) (w : List S) (cpos : List ℕ) (w' : List S) (cpos' : List ℕ) (p a e size k j : ℕ) : Type 0 where
  pub many : j ≡ size + count (filled (Rows code w 256)) k
  pub can_old : (i : ℕ) → i < size → Rows code w' 288 i ≡ Rows code w 288 i
  pub can_new : (i : ℕ) → i < count (filled (Rows code w 256)) k → Rows code w' 288 (size + i) ≡ Rows code w 256 (nth (filled (Rows code w 256)) k i)
  pub pos_old : (i : ℕ) → i < size → slice_index cpos' i ≡ slice_index cpos i
  pub pos_new : (i : ℕ) → i < count (filled (Rows code w 256)) k → slice_index cpos' (size + i) ≡ p
  pub img_old : (h q : ℕ) → a ≤ h → h < e → q < size → Rows code w' 384 h q ≡ Rows code w 384 h q
  pub img_new : (h i : ℕ) → a ≤ h → h < e → i < count (filled (Rows code w 256)) k → Rows code w' 384 h (size + i) ≡ Rows code w 128 h (nth (filled (Rows code w 256)) k i)
  pub img_past : (h q : ℕ) → a ≤ h → h < e → j ≤ q → Rows code w' 384 h q ≡ Rows code w 384 h q
  pub img_other : (h : ℕ) → e ≤ h → Rows code w' 384 h ≡ Rows code w 384 h
  pub tab : (i : ℕ) → i < 32 → Rows code w' 256 i ≡ Rows code w 256 i
  pub off : (i : ℕ) → i < 128 → Rows code w' 0 i ≡ Rows code w 0 i
  pub dif : (i : ℕ) → i < 128 → Rows code w' 128 i ≡ Rows code w 128 i

-- cells and images hold nothing past the last cell
pub record Cellular {S : Type 0} (code : S → Row) (w : List S) (m size e : ℕ) : Type 0 where
  pub can : Inside size (Rows code w 288)
  pub img : (h p : ℕ) → e ≤ h → h ≤ m → size ≤ p → Rows code w 384 h p ≡ 0

-- the cells of the rule f from e's position on are made, the places from e on have their images over them, and those before e their rows
pub record Backs (M : ScaleModel) {S : Type 0} (code : S → Row) (n m : ℕ) (D : Diagram (Element M)) (f : Assignment → Element M) (out : ℕ → Element M) (w : List S) (cpos : List ℕ) (size e : ℕ) : Type 0 where
  pub off : (h u : ℕ) → h < e → Grid M code w 0 h u ≡ D.off h u
  pub dif : (h u : ℕ) → h < e → Grid M code w 128 h u ≡ D.dif h u
  pub built : Built (scalars M) n f (celled M code w cpos size out) (D.pos e)
  pub imaged : (h : ℕ) → e ≤ h → h ≤ m → (x : Assignment)
      → val (scalars M) n D h x ≡ comb (scalars M) size (Grid M code w 384 h) (val (scalars M) n (celled M code w cpos size out)) x

-- the rule f of the diagram D, whose cells are derived from it
pub record Derives (M : ScaleModel) (n m : ℕ) (D : Diagram (Element M)) (f : Assignment → Element M) : Type 0 where
  pub formed : Formed (scalars M) n D
  pub reached : (h : ℕ) → h < m → Derived (scalars M) f (D.pos h) (val (scalars M) n D h)

-- no diagram of the rule f has fewer places
abbrev pub Least : (M : ScaleModel) → ℕ → (Assignment → Element M) → ℕ → Type 0
Least M n f k = (E : Diagram (Element M)) → Formed (scalars M) n E → ((a : Assignment) → rule (scalars M) n E a ≡ f a) → k ≤ E.places

-- whatever diagram is being settled, and whatever its outlet will be
abbrev pub Recedes : (M : ScaleModel) → {S : Type 0} → (S → Row) → List ℕ → ℕ → List S → List ℕ → ℕ → ℕ → List S → List ℕ → ℕ → ℕ → Type 0
Recedes M code pos m w cpos size e w' cpos' size' e' =
    (off dif : ℕ → ℕ → Element M) (out out' : ℕ → Element M) (f : Assignment → Element M) → Derives M (slice_index pos m) m (drawn m pos off dif out) f
    → Backs M code (slice_index pos m) m (drawn m pos off dif out) f out' w cpos size e → Backs M code (slice_index pos m) m (drawn m pos off dif out) f out' w' cpos' size' e'

abbrev pub Exceeds : (M : ScaleModel) → {S : Type 0} → (S → Row) → List ℕ → ℕ → List S → List ℕ → ℕ → ℕ → Type 0
Exceeds M code pos m w cpos size e =
    (off dif : ℕ → ℕ → Element M) (out out' : ℕ → Element M) (f : Assignment → Element M) → Derives M (slice_index pos m) m (drawn m pos off dif out) f
    → Backs M code (slice_index pos m) m (drawn m pos off dif out) f out' w cpos size e → Least M (slice_index pos m) f 33

pub record Stepped (M : ScaleModel) {S : Type 0} (code : S → Row) (pos : List ℕ) (m : ℕ) (w : List S) (cpos : List ℕ) (size e : ℕ) (w' : List S) (cpos' : List ℕ) (size' e' : ℕ) : Type 0 where
  pub more : size ≤ size'
  pub few : size' ≤ 32
  pub cellular : Cellular code w' m size' e'
  pub recedes : Recedes M code pos m w cpos size e w' cpos' size' e'

-- the same, of the places of a draft and of those of a form as far as they are found
abbrev pub ExceedsAt : (M : ScaleModel) → {S : Type 0} → (S → Row) → Places → List S → FormPlaces → ℕ → Type 0
ExceedsAt M code places w found e = Exceeds M code places.pos places.cells w found.pos (found.cells + 1) e

abbrev pub StepsTo : (M : ScaleModel) → {S : Type 0} → (S → Row) → Places → List S → FormPlaces → ℕ → List S → FormPlaces → ℕ → Type 0
StepsTo M code places w found e w' found' e' = Stepped M code places.pos places.cells w found.pos (found.cells + 1) e w' found'.pos (found'.cells + 1) e'

-- the diagram of size places that stands in working memory is the canonical one of the rule f
pub record Settles (M : ScaleModel) {S : Type 0} (code : S → Row) (n : ℕ) (f : Assignment → Element M) (w : List S) (cpos : List ℕ) (size : ℕ) (out : Row) : Type 0 where
  pub few : size ≤ 32
  pub canonical : Canonical (scalars M) n (celled M code w cpos size (vec M out))
  pub same : (a : Assignment) → rule (scalars M) n (celled M code w cpos size (vec M out)) a ≡ f a
  pub rows_end : Inside size (Rows code w 288)
  pub outlet_ends : (p : ℕ) → size ≤ p → out p ≡ 0
