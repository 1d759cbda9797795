-- Descriptors, one cell more.
use Rattle.std.proofs.Common.{◌≡◌, ℕ, ◌+◌, ◌<◌, List, length, get_or, set, sym, ◌∙◌, arith, get_or-set_other, get_or-set_same}
use native.Mathlib.Decide.{ℕ_discrete, dec_lt}
use Rattle.std.proofs.lemmas.Bool.{cond-true, cond-false, lt-ltb, le-ltb}
use Rattle.rack.specs.Describing.{noted_input}

pub none_noted : (order : List ℕ) (pos : List ℕ) (j : ℕ) → 0 ≡ noted_input order 0 pos j
none_noted order pos j = sym (cond-false _ _ _ (le-ltb j 0 (omega arith)))

pub one_noted : (order pos inputs : List ℕ) (k x : ℕ) → k < length inputs → x ≡ get_or order (get_or pos (k + 1) 0) 0
    → ((j : ℕ) → get_or inputs j 0 ≡ noted_input order k pos j) → (j : ℕ) → get_or (set inputs k x) j 0 ≡ noted_input order (k + 1) pos j
one_noted order pos inputs k x h e inv j = elim (ℕ_discrete j k) [
  | yes s ↦ rw s (get_or-set_same inputs k x 0 h ∙ e ∙ sym (cond-true _ _ _ (lt-ltb k (k + 1) (omega arith))))
  | no n ↦ get_or-set_other inputs k j x 0 n ∙ inv j ∙ elim (dec_lt j k) [
    | yes l ↦ cond-true _ _ _ (lt-ltb j k l) ∙ sym (cond-true _ _ _ (lt-ltb j (k + 1) (omega arith)))
    | no l ↦ cond-false _ _ _ (le-ltb j k (omega arith)) ∙ sym (cond-false _ _ _ (le-ltb j (k + 1) (omega arith)))
  ]
]
