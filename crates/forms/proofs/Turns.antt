-- A turn of a loop over numbered cells, each with its strip and its input.
use Rattle.std.proofs.Common.{Iter, ◌≡◌, ℕ, ◌+◌, ◌<◌, ◌≤◌, List, length, get_or, Some, None, refl, ap, ◌∙◌, arith}
use denote.Ref.{Bor}
use Rattle.std.specs.declared.iter.Enumerate.{Enumerate}
use Rattle.std.specs.declared.iter.Zip.{Zip}
use Rattle.std.specs.Iterator.{Yields}
use Rattle.std.specs.Iterator.Adapters.{enumerate_source, enumerate_count, enumerate_steps, zip_first, zip_second}
use Rattle.std.specs.List.{zip, enumerate_from}
use Rattle.std.specs.Slice.Iter.{iter_rest}
use Rattle.std.proofs.iter.Yields.{fronts}
use Rattle.std.proofs.lemmas.Iterator.{zips, YieldsList, YieldsList-from_slice, YieldsList-from_zip}
use Rattle.std.proofs.lemmas.Iterator.Consumers.{YieldsList-from_enumerate, YieldsList-turn, YieldsList-end}
use Rattle.std.proofs.lemmas.List.{get_or_default}
use Rattle.std.proofs.lemmas.List.FromFn.{length-enumerate_from, get_or-enumerate_from}
use Rattle.std.proofs.lemmas.Slice.Zip.{length-zip, get_or-zip}

module _ {A : Type 0} (xs : List A) (inputs : List ℕ) (s t u : Enumerate (Zip (Iter A) (Iter ℕ))) (ys : List (ℕ × (Bor A × Bor ℕ)))
    (first : iter_rest (zip_first (enumerate_source s)) ≡ xs) (second : iter_rest (zip_second (enumerate_source s)) ≡ inputs) (count : enumerate_count s ≡ 0)
    (y : Yields (enumerate_steps (zips fronts fronts)) s ys t) where
  all : YieldsList (enumerate_steps (zips fronts fronts)) (λ p. (p.0, (p.1.0.now, p.1.1.now))) s (enumerate_from 0 (zip xs inputs))
  all = YieldsList-from_enumerate (YieldsList-from_zip (YieldsList-from_slice xs first) (YieldsList-from_slice inputs second)) count

  -- the number, the strip and the input
  pub cell_turn : (k : ℕ) (x : Bor A) (i : Bor ℕ) → enumerate_steps (zips fronts fronts) t (Some (k, (x, i))) u
      → (k ≡ length ys) × (length ys < length xs) × (length ys < length inputs) × (x.now ≡ get_or xs (length ys) x.now) × (i.now ≡ get_or inputs (length ys) 0)
  cell_turn k x i h =
      let n = length ys in
      let turn = YieldsList-turn all ys t y (Some (k, (x, i))) u (k, (x, i)) refl h in
      let l : n < length (zip xs inputs) = omega (arith, turn.0, length-enumerate_from 0 (zip xs inputs)) in
      let one : n < length xs = omega (arith, l, length-zip xs inputs) in
      let two : n < length inputs = omega (arith, l, length-zip xs inputs) in
      let z : 0 + n ≡ n = omega arith in
      let e = turn.1 ∙ get_or-enumerate_from 0 (zip xs inputs) n _ l in
      let p = ap (λ (q : ℕ × (A × ℕ)). q.1) e ∙ get_or-zip xs inputs n (x.now, i.now) one two in (
        ap (λ (q : ℕ × (A × ℕ)). q.0) e ∙ z,
        one,
        two,
        ap (λ (q : A × ℕ). q.0) p,
        ap (λ (q : A × ℕ). q.1) p ∙ get_or_default inputs n i.now 0 two,
      )

  -- after the last turn
  pub cell_end : enumerate_steps (zips fronts fronts) t None u → length inputs ≤ length xs → length ys ≡ length inputs
  cell_end h few = omega (arith, (YieldsList-end all ys t y None u refl h).1, length-enumerate_from 0 (zip xs inputs), length-zip xs inputs)
