-- Two slots, strip by strip.
use Rattle.std.proofs.Common.{◌≡◌, ℕ, ◌<◌, min, Bool, true, false, T, List, [], ◌∷◌, length, get_or, sym, ◌∙◌, subst, arith}
use Rattle.std.specs.Bool.{MatchBool}
use Rattle.std.specs.List.{zip, AllWithin, HoldsAt}
use Rattle.std.proofs.lemmas.Slice.Zip.{length-zip, get_or-zip}
use Rattle.elimination.specs.Rows.{Rows}
use Rattle.strip.specs.Row.{Row}
use Rattle.forms.specs.Alike.{RowsAlike}
use Rattle.forms.proofs.Filling.{row_at}

module _ {S : Type 0} (code : S → Row) where
  -- two strips are equal, or not
  abbrev pub Equal : S × S → Type 0
  Equal p = code p.0 ≡ code p.1

  abbrev pub Other : S × S → Type 0
  Other p = Equal p → ⊥

  abbrev pub Told : List S → List S → Bool → Type 0
  Told a b r = MatchBool r (AllWithin Equal (zip a b) 0 (length (zip a b))) ((k : ℕ) × (k < length (zip a b)) × HoldsAt Other (zip a b) k)

  -- the pair at a place
  pair : (a b : List S) (k : ℕ) (d : S × S) → k < min (length a) (length b)
      → (Equal (get_or (zip a b) k d) → Rows code a 0 k ≡ Rows code b 0 k) × (Rows code a 0 k ≡ Rows code b 0 k → Equal (get_or (zip a b) k d))
  pair a b k d h =
      let one : k < length a = omega arith in
      let two : k < length b = omega arith in
      let e = get_or-zip a b k d one two in (
        λ q. row_at code a k d.0 one ∙ subst Equal e q ∙ sym (row_at code b k d.1 two),
        λ r. subst Equal (sym e) (sym (row_at code a k d.0 one) ∙ r ∙ row_at code b k d.1 two),
      )

  pub alike_if_equal : (a b : List S) (r : Bool) → Told a b r → T r → RowsAlike code a b (min (length a) (length b))
  alike_if_equal a b false m t k h = elim t [ ]
  alike_if_equal [] b true m t k h = absurd (omega arith)
  alike_if_equal (x ∷ xs) [] true m t k h = absurd (omega arith)
  alike_if_equal (x ∷ xs) (y ∷ ys) true m t k h = (pair (x ∷ xs) (y ∷ ys) k (x, y) h).0 (m k (x, y) (omega arith) (omega (arith, h, length-zip (x ∷ xs) (y ∷ ys))))

  pub equal_if_alike : (a b : List S) (r : Bool) → Told a b r → RowsAlike code a b (min (length a) (length b)) → T r
  equal_if_alike a b true m e = tt
  equal_if_alike [] b false m e = absurd (omega (arith, m.1))
  equal_if_alike (x ∷ xs) [] false m e = absurd (omega (arith, m.1))
  equal_if_alike (x ∷ xs) (y ∷ ys) false m e =
      let l : m.0 < min (length (x ∷ xs)) (length (y ∷ ys)) = omega (arith, m.1, length-zip (x ∷ xs) (y ∷ ys)) in
      m.2 (x, y) ((pair (x ∷ xs) (y ∷ ys) m.0 (x, y) l).1 (e m.0 l))
