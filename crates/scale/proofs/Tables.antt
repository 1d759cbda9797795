-- The rules of the tables. Each list is computed here from its rule. Where an answer unfolds it, the check compares it with the table
-- in the code, entry by entry: one computed test, which the lemma then carries to each entry. Assumes nothing.
use Rattle.std.proofs.Common.{◌≡◌, ℕ, ◌+◌, ◌*◌, ◌/◌, ◌%◌, ◌<◌, List, map, get_or, sym, ◌∙◌, ap₂, ⊎_elim, arith}
use Rattle.std.specs.List.{range_with_len}
use Rattle.std.proofs.lemmas.Bool.{cases_lt}
use Rattle.std.proofs.lemmas.List.{get_or_past}
use Rattle.std.proofs.lemmas.List.FromFn.{get_or-map-range_with_len, length-map-range_with_len}
use Rattle.scale.specs.Lanes as lanes
use Rattle.scale.specs.Model.{at_code, at_codes}
use Rattle.scale.proofs.Answered.{at_code_is, at_code_none, at_codes_is}

-- the list f 0, f 1, .. of n entries
unfoldable pub table : ℕ → (ℕ → ℕ) → List ℕ
table n f = map f (range_with_len 0 n)

pub entry : (n : ℕ) (f : ℕ → ℕ) (a : ℕ) → get_or (table n f) a 0 ≡ at_code n f a
unfolding table
entry n f a =
    ⊎_elim
    (λ h. get_or-map-range_with_len f 0 n a a 0 h (omega arith) ∙ sym (at_code_is n f a h))
    (λ l. get_or_past (table n f) a 0 (omega (arith, length-map-range_with_len f 0 n)) ∙ sym (at_code_none n f a l)) (cases_lt a n)

-- row a of 16 rows of 16 has the products of a
abbrev pub product_at : ℕ → ℕ
product_at k = lanes.times (k / 16) (k % 16)

pub product_entry : (a b : ℕ) → a < 16 → b < 16 → get_or (table 256 product_at) (16 * a + b) 0 ≡ at_codes 16 lanes.times a b
unfolding table
product_entry a b h k =
    let row : (16 * a + b) / 16 ≡ a = omega arith in
    let column : (16 * a + b) % 16 ≡ b = omega arith in
    get_or-map-range_with_len product_at 0 256 (16 * a + b) (16 * a + b) 0 (omega arith) (omega arith) ∙ (ap₂ lanes.times row column ∙ sym (at_codes_is 16 lanes.times a b h k))
