-- The forward pass underway.
use Rattle.std.specs.Prelude.{◌≡◌, ℕ, ◌<◌, ◌≤◌, List, slice_index}
use Rattle.std.proofs.Math.Logic.{ite}
use Rattle.std.proofs.Math.Decide.{dec_lt}
use Rattle.linear.specs.Field.{Field as Scalars}
use Rattle.linear.specs.Linear.{comb}
use Rattle.diagram.specs.Canonical.{Derived}
use Rattle.diagram.specs.Diagram.{Diagram, Formed, val, rule}
use Rattle.diagram.specs.Passes.{rest, gain}
use Rattle.scale.specs.Model.{ScaleModel}
use Rattle.elimination.specs.Lift.{Element, scalars, up, Grid, part}
use Rattle.strip.specs.Row.{Row}
use Rattle.settling.specs.Draft.{drawn}

-- a holds nothing where the table R has no row
abbrev pub Sparse : {K : Type 0} → Scalars K → ℕ → (ℕ → ℕ → K) → (ℕ → K) → Type 0
Sparse F size R a = (j : ℕ) → j < size → R j j ≡ F.zero → a j ≡ F.zero

-- R is the table of rows over D's places; the rows off and dif of the places below h are over R, and those from h on are D's; the outlet out is over R
pub record Trimming {K : Type 0} (F : Scalars K) (n m : ℕ) (D : Diagram K) (R off dif : ℕ → ℕ → K) (out : ℕ → K) (h : ℕ) : Type 0 where
  pub steady : R m m ≡ F.one
  pub outs : (u : ℕ) → u < D.places → D.out u ≡ comb F D.places out R u
  pub out_sparse : Sparse F D.places R out
  pub off_todo : (k u : ℕ) → h ≤ k → k < D.places → off k u ≡ D.off k u
  pub dif_todo : (k u : ℕ) → h ≤ k → k < D.places → dif k u ≡ D.dif k u
  pub off_later : (k u : ℕ) → k < h → u < D.places → D.pos u ≤ D.pos k → off k u ≡ F.zero
  pub dif_later : (k u : ℕ) → k < h → u < D.places → D.pos u ≤ D.pos k → dif k u ≡ F.zero
  pub off_sparse : (k : ℕ) → k < h → Sparse F D.places R (off k)
  pub dif_sparse : (k : ℕ) → k < h → Sparse F D.places R (dif k)
  pub rests : (k u : ℕ) → k < h → u < D.places → rest F D (D.pos k) (R k) u ≡ comb F D.places (off k) R u
  pub gains : (k u : ℕ) → k < h → u < D.places → gain F D (D.pos k) (R k) u ≡ comb F D.places (dif k) R u
  pub derived : (j : ℕ) → j < m → Derived F (rule F n D) (D.pos j) (comb F D.places (R j) (val F n D))

-- what the row of h is where its position reads 0, over the places from e on
abbrev pub Rest : (M : ScaleModel) → {S : Type 0} → (S → Row) → List S → ℕ → ℕ → Row → Type 0
Rest M code w h e r = (p : ℕ) → up M (r p) ≡ (scalars M).plus (ite (dec_lt p e) (scalars M).zero (Grid M code w 256 h p)) (part M (Grid M code w 256 h) (Grid M code w 0) h e p)

-- what it gains where its position reads 1
abbrev pub Gain : (M : ScaleModel) → {S : Type 0} → (S → Row) → List S → ℕ → ℕ → Row → Type 0
Gain M code w h e r = (p : ℕ) → up M (r p) ≡ part M (Grid M code w 256 h) (Grid M code w 128) h e p

-- whatever diagram is being trimmed, from the places below h to those below h'
abbrev pub Advances : (M : ScaleModel) → {S : Type 0} → (S → Row) → List ℕ → ℕ → List S → ℕ → List S → ℕ → Type 0
Advances M code pos m w h w' h' =
    (off dif : ℕ → ℕ → Element M) (out out' : ℕ → Element M) → Formed (scalars M) (slice_index pos m) (drawn m pos off dif out)
    → Trimming (scalars M) (slice_index pos m) m (drawn m pos off dif out) (Grid M code w 256) (Grid M code w 0) (Grid M code w 128) out' h
    → Trimming (scalars M) (slice_index pos m) m (drawn m pos off dif out) (Grid M code w' 256) (Grid M code w' 0) (Grid M code w' 128) out' h'
