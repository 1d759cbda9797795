-- Where the places of one position begin and end.
use Rattle.std.proofs.Common.{◌≡◌, ℕ, ◌+◌, ◌-◌, ◌<◌, ◌≤◌, ◌≢◌, List, get_or, length, take, drop, sym, ap, ◌∙◌, subst, arith, get_or-take, get_or-drop, length-take, length-drop}
use native.Mathlib.Decide.{dec_lt}
use Rattle.settling.specs.Draft.{Ordered, Block, Span}

-- where they end or begin, by any other name of that place
pub block_is : (m : ℕ) (pos : List ℕ) (h e e' : ℕ) → e' ≡ e → Block m pos h e → Block m pos h e'
block_is m pos h e e' q b = subst (λ (x : ℕ). Block m pos h x) (sym q) b

pub span_is : (pos : List ℕ) (a a' e : ℕ) → a' ≡ a → Span pos a e → Span pos a' e
span_is pos a a' e q s = subst (λ (x : ℕ). Span pos x e) (sym q) s

module _ (m : ℕ) (pos : List ℕ) (order : Ordered m pos) (wide : m < length pos) where
  -- the positions of the places from h on
  module _ (h : ℕ) (below : h < m) (xs : List ℕ) (is : xs ≡ take (m - h) (drop h pos)) where
    many : length xs ≡ m - h
    many = ap length is ∙ grind (arith, length-take, length-drop)

    read : (v : ℕ) → h ≤ v → v < m → get_or pos v 0 ≡ get_or xs (v - h) 0
    read v b l = let there : h + (v - h) ≡ v = omega arith in sym (ap (λ (l : List ℕ). get_or l (v - h) 0) is ∙ grind (arith, get_or-take, get_or-drop))

    -- up to the first of another position
    pub ends_at : (k : ℕ) → k < length xs → get_or xs k 0 ≢ get_or pos h 0 → ((i : ℕ) → i < k → get_or xs i 0 ≡ get_or pos h 0) → Block m pos h (h + k)
    ends_at k l other here = record {
      some = elim (dec_lt h (h + k)) [
        | yes o ↦ o
        | no o ↦ absurd (let z : k ≡ h - h = omega arith in other (ap (λ (t : ℕ). get_or xs t 0) z ∙ sym (read h (omega arith) below)))
      ];
      ends = omega (arith, many);
      same = λ v b q. read v b (omega (arith, many)) ∙ here (v - h) (omega arith);
      later = λ v b q.
          let there : h + k - h ≡ k = omega arith in
          omega (arith, other_at, order.rising h (h + k) (omega arith) (omega (arith, many)), order.rising (h + k) v b q);
    }
      where
        other_at : get_or pos (h + k) 0 ≢ get_or pos h 0
        other_at e = let there : h + k - h ≡ k = omega arith in other (ap (λ (t : ℕ). get_or xs t 0) (sym there) ∙ sym (read (h + k) (omega arith) (omega (arith, many))) ∙ e)

    -- or to the last
    pub ends_last : ((i : ℕ) → i < length xs → get_or xs i 0 ≡ get_or pos h 0) → Block m pos h m
    ends_last here = record {
      some = below;
      ends = omega arith;
      same = λ v b q. read v b q ∙ here (v - h) (omega (arith, many));
      later = λ v b q. (let z : v ≡ m = omega arith in omega (arith, order.cells h below, ap (λ (t : ℕ). get_or pos t 0) z));
    }

  -- those of the places before e
  module _ (e : ℕ) (some : 0 < e) (ends : e ≤ m) (xs : List ℕ) (is : xs ≡ take e pos) where
    count : length xs ≡ e
    count = ap length is ∙ grind (arith, length-take)

    before : (v : ℕ) → v < e → get_or pos v 0 ≡ get_or xs v 0
    before v l = sym (ap (λ (l : List ℕ). get_or l v 0) is ∙ grind (arith, get_or-take))

    -- back from e - 1, down to the last of another position
    pub starts_after : (k : ℕ) → k < length xs → get_or xs k 0 ≢ get_or pos (e - 1) 0 → ((v : ℕ) → k < v → v < length xs → get_or xs v 0 ≡ get_or pos (e - 1) 0) → Span pos (k + 1) e
    starts_after k l other here = elim (dec_lt (k + 1) e) [
      | yes o ↦ record {
        some = o;
        same = λ v i q. all v (omega arith) q ∙ sym (all (k + 1) (omega arith) o);
        earlier = λ v i. omega (arith, other_at, order.rising v k (omega arith) (omega arith), order.rising k (e - 1) (omega arith) (omega arith), all (k + 1) (omega arith) o);
      }
      | no o ↦ absurd (let last : k ≡ e - 1 = omega (arith, count) in other_at (ap (λ (t : ℕ). get_or pos t 0) last))
    ]
      where
        all : (v : ℕ) → k < v → v < e → get_or pos v 0 ≡ get_or pos (e - 1) 0
        all v i q = before v q ∙ here v i (omega (arith, count))

        other_at : get_or pos k 0 ≢ get_or pos (e - 1) 0
        other_at z = other (sym (before k (omega (arith, count))) ∙ z)

    -- or to the first
    pub starts_first : ((v : ℕ) → v < length xs → get_or xs v 0 ≡ get_or pos (e - 1) 0) → Span pos 0 e
    starts_first here = record {
      some = some;
      same = λ v i q. all v q ∙ sym (all 0 some);
      earlier = λ v i. absurd (omega arith);
    }
      where
        all : (v : ℕ) → v < e → get_or pos v 0 ≡ get_or pos (e - 1) 0
        all v q = before v q ∙ here v (omega (arith, count))
