-- The values of a patch's cells, and the rows of its diagram. Assumes nothing.
use Rattle.std.specs.Prelude.{◌≡◌, ℕ, suc, ◌+◌, ◌<◌, ◌≤◌, Bool, true, cond, ◌&&◌, List, [], ◌∷◌, length, ◌==◌}
use Rattle.linear.specs.Sums.{fold}
use Rattle.patch.specs.Records.{Record, nth, cells_of}
use Rattle.patch.specs.Paths.{target, code, off_from, on_from, opens, starts}

module _ (plus times : ℕ → ℕ → ℕ) (rs : List Record) where
  -- the sum, over the arcs picked, of code × value of the target
  abbrev pub flow : (Record → Bool) → (ℕ → ℕ) → ℕ
  flow pick V = fold 0 plus (length rs) (λ k. cond (pick (nth rs k)) (times (code (nth rs k)) (V (target (nth rs k)))) 0)

  -- V gives the values of the cells at inputs x: cell 0 has 1, any other the sum over its open arcs
  pub record Values (x : ℕ → Bool) (V : ℕ → ℕ) : Type 0 where
    pub steady : V 0 ≡ 1
    pub cell : (f : ℕ) → 0 < f → f ≤ cells_of rs → V f ≡ flow (opens rs x f) V

module _ (plus : ℕ → ℕ → ℕ) (rs : List Record) where
  -- the sum of the codes of the arcs picked that lead to cell u
  abbrev pub sent : (Record → Bool) → ℕ → ℕ
  sent pick u = fold 0 plus (length rs) (λ k. cond (pick (nth rs k) && u == target (nth rs k)) (code (nth rs k)) 0)

  -- the rows of the patch's diagram: off, on minus off, and outlet
  abbrev pub off_to : ℕ → ℕ → ℕ
  off_to t u = sent (off_from t) u

  abbrev pub dif_to : (ℕ → ℕ) → ℕ → ℕ → ℕ
  dif_to neg t u = plus (sent (on_from t) u) (neg (sent (off_from t) u))

  abbrev pub out_to : ℕ → ℕ
  out_to u = sent starts u

-- a vector's sum over the places 0 to m
abbrev pub along : (ℕ → ℕ → ℕ) → (ℕ → ℕ → ℕ) → ℕ → (ℕ → ℕ) → (ℕ → ℕ) → ℕ
along plus times m v V = fold 0 plus (suc m) (λ u. times (v u) (V u))

-- V gives the values of a diagram of m cells: off and dif are its vectors, inp its inputs
pub record Solves (plus times : ℕ → ℕ → ℕ) (m : ℕ) (inp : ℕ → ℕ) (off dif : ℕ → ℕ → ℕ) (x : ℕ → Bool) (V : ℕ → ℕ) : Type 0 where
  pub steady : V 0 ≡ 1
  pub cell : (t : ℕ) → 0 < t → t ≤ m → V t ≡ plus (along plus times m (off t) V) (cond (x (inp t)) (along plus times m (dif t) V) 0)

-- how many of some paths have only codes 1
abbrev pub all_ones : List Record → List ℕ → Bool
all_ones rs [] = true
all_ones rs (k ∷ p) = code (nth rs k) == 1 && all_ones rs p

abbrev pub number_of_ones : List Record → List (List ℕ) → ℕ
number_of_ones rs [] = 0
number_of_ones rs (p ∷ ps) = cond (all_ones rs p) (number_of_ones rs ps + 1) (number_of_ones rs ps)
