-- Small patches, gates, inputs 0 and 1 in that order. Assumes nothing.
use Rattle.std.specs.Prelude.{◌≡◌, ℕ, List, [], ◌∷◌, map, bit_and, bit_xor, slice_index, slice_index_or}
use Rattle.linear.specs.Codes.{CodeField}
use Rattle.patch.specs.Encoding.{encode, EchelonNumbers}
use Rattle.patch.specs.Faults.{Order, check_patch, passed, refused}
use Rattle.patch.specs.Paths.{rule}

abbrev pub plain_order : List ℕ
plain_order = 0 ∷ 1 ∷ []

-- "either", and its settled bytes
abbrev pub either : List ℕ
either = 1 ∷ 0 ∷ 0 ∷ 0 ∷ 0 ∷ 0 ∷ 0 ∷ 0 ∷ 1 ∷ 1 ∷ 0 ∷ 0 ∷ 3 ∷ 1 ∷ 0 ∷ 1 ∷ 2 ∷ 1 ∷ 2 ∷ 1 ∷ 3 ∷ 2 ∷ 0 ∷ 1 ∷ 4 ∷ 0 ∷ 1 ∷ 1 ∷ []

abbrev pub either_settled : List ℕ
either_settled = 1 ∷ 1 ∷ 0 ∷ 0 ∷ 1 ∷ 0 ∷ 0 ∷ 0 ∷ 3 ∷ 1 ∷ 0 ∷ 1 ∷ 3 ∷ 2 ∷ 0 ∷ 1 ∷ 3 ∷ 2 ∷ 1 ∷ 1 ∷ 4 ∷ 0 ∷ 1 ∷ 1 ∷ 4 ∷ 0 ∷ 2 ∷ 1 ∷ []

-- "exactly one"
abbrev pub one_of_two : List ℕ
one_of_two = 1 ∷ 1 ∷ 0 ∷ 0 ∷ 1 ∷ 0 ∷ 0 ∷ 0 ∷ 3 ∷ 1 ∷ 0 ∷ 1 ∷ 3 ∷ 2 ∷ 0 ∷ 1 ∷ 4 ∷ 0 ∷ 1 ∷ 1 ∷ 4 ∷ 0 ∷ 2 ∷ 1 ∷ []

abbrev pub table : List ℕ → List ℕ
table bytes = map (rule bit_xor bit_and plain_order bytes) (0 ∷ 1 ∷ 2 ∷ 3 ∷ [])

-- the settled diagram of "either", by cell number: inputs, rows, outlet codes, heads
abbrev pub inp : ℕ → ℕ
inp j = slice_index (0 ∷ 1 ∷ 0 ∷ []) j

abbrev pub row : ℕ → ℕ → ℕ
row j t = slice_index (slice_index_or ([] ∷ (1 ∷ []) ∷ (1 ∷ 1 ∷ []) ∷ []) j []) t

abbrev pub out : ℕ → ℕ
out t = slice_index (0 ∷ 1 ∷ 1 ∷ []) t

abbrev pub head : ℕ → ℕ
head j = 0

abbrev pub Samples : Type 0
Samples =
    (check_patch plain_order 128 2 either ≡ passed) × (check_patch plain_order 128 2 either_settled ≡ passed)
    × (table either ≡ 0 ∷ 1 ∷ 1 ∷ 1 ∷ []) × (table either_settled ≡ 0 ∷ 1 ∷ 1 ∷ 1 ∷ []) × (table one_of_two ≡ 0 ∷ 1 ∷ 1 ∷ 0 ∷ [])
    -- each cause, and the record that has it; two faults in one record, and a record before a worse one
    × (check_patch plain_order 128 2 (4 ∷ 0 ∷ 0 ∷ 1 ∷ 5 ∷ []) ≡ refused 11 0)
    × (check_patch plain_order 128 2 (0 ∷ 0 ∷ 0 ∷ 0 ∷ 5 ∷ 0 ∷ 0 ∷ 0 ∷ []) ≡ refused 12 1)
    × (check_patch plain_order 128 2 (0 ∷ 0 ∷ 1 ∷ 0 ∷ []) ≡ refused 13 0)
    × (check_patch plain_order 128 2 (1 ∷ 7 ∷ 0 ∷ 1 ∷ []) ≡ refused 13 0)
    × (check_patch plain_order 128 2 (4 ∷ 1 ∷ 7 ∷ 7 ∷ []) ≡ refused 13 0)
    × (check_patch plain_order 128 2 (1 ∷ 2 ∷ 0 ∷ 0 ∷ []) ≡ refused 14 0)
    × (check_patch plain_order 2 2 (1 ∷ 0 ∷ 0 ∷ 0 ∷ 0 ∷ 0 ∷ 0 ∷ 0 ∷ 1 ∷ 1 ∷ 0 ∷ 0 ∷ []) ≡ refused 15 2)
    × (check_patch plain_order 128 2 (3 ∷ 0 ∷ 0 ∷ 1 ∷ []) ≡ refused 16 0)
    × (check_patch plain_order 128 2 (3 ∷ 1 ∷ 0 ∷ 1 ∷ 1 ∷ 0 ∷ 0 ∷ 0 ∷ []) ≡ refused 16 0)
    × (check_patch plain_order 128 2 (1 ∷ 0 ∷ 0 ∷ 0 ∷ 2 ∷ 1 ∷ 2 ∷ 7 ∷ []) ≡ refused 16 1)
    × (check_patch plain_order 128 2 (4 ∷ 0 ∷ 1 ∷ 1 ∷ []) ≡ refused 16 0)
    × (check_patch plain_order 128 2 (1 ∷ 1 ∷ 0 ∷ 0 ∷ 1 ∷ 0 ∷ 0 ∷ 0 ∷ 3 ∷ 1 ∷ 2 ∷ 7 ∷ []) ≡ refused 17 2)
    × (check_patch plain_order 128 2 (1 ∷ 1 ∷ 0 ∷ 0 ∷ 3 ∷ 1 ∷ 1 ∷ 1 ∷ []) ≡ refused 17 1)
    × (check_patch plain_order 128 2 (0 ∷ 0 ∷ 0 ∷ 0 ∷ 4 ∷ 0 ∷ 0 ∷ 2 ∷ 5 ∷ 0 ∷ 0 ∷ 0 ∷ []) ≡ refused 18 1)
    -- what the statements assume can be met
    × CodeField 2 bit_xor bit_and (λ a. a) (λ a. a) × Order plain_order × EchelonNumbers plain_order 2 2 inp row out head × (encode 2 inp row out ≡ either_settled)
