-- What is proved of patches, their rules, their encoding and the rule book; the crate's contracts cite it. Assumes nothing.
use Rattle.std.specs.Prelude.{◌≡◌, ℕ, suc, ◌+◌, ◌*◌, ◌/◌, ◌%◌, ◌^◌, ◌<◌, ◌≤◌, Bool, ◌≢◌, ◌↔◌, List, [], length, take, ◌==◌, bit_and, bit_xor, slice_index}
use Rattle.linear.specs.Codes.{CodeField}
use Rattle.linear.specs.Sums.{fold}
use Rattle.patch.specs.Records.{read, records, declare, declared, nth, reads, cells_of}
use Rattle.patch.specs.Faults.{position, Order, Bytes, Later, Patch, First, fault, check_patch, passed, refused}
use Rattle.patch.specs.Paths.{IsPath, paths, Among, Distinct, path_sum, starts, bit, rule}
use Rattle.patch.specs.Encoding.{encode, EchelonNumbers, RowValues}
use Rattle.patch.specs.Settings.{made}
use Rattle.patch.specs.Settled.{SameRule, Kept}
use Rattle.patch.specs.Values.{flow, Values, off_to, dif_to, out_to, along, Solves, number_of_ones}

-- The check finds nothing in bytes exactly where they are a patch of fewer than L cells.
abbrev pub ChecksSound : Type 0
ChecksSound = (order : List ℕ) (L q : ℕ) (bytes : List ℕ) → 0 < L → Bytes bytes
    → (check_patch order L q bytes ≡ passed) ↔ (Patch order q bytes × (cells_of (records bytes) < L))

-- It refuses a length first, and then with the fault and the number of the first faulty record.
abbrev pub ChecksLength : Type 0
ChecksLength = (order : List ℕ) (L q : ℕ) (bytes : List ℕ) → length bytes % 4 ≢ 0 → check_patch order L q bytes ≡ refused 11 0

abbrev pub ChecksRefused : Type 0
ChecksRefused = (order : List ℕ) (L q : ℕ) (bytes : List ℕ) (number k : ℕ) → length bytes % 4 ≡ 0
    → (check_patch order L q bytes ≡ refused number k) ↔ First order L q (records bytes) number k

-- Two tables that undo each other are a scan order and its positions.
abbrev pub TablesOrder : Type 0
TablesOrder = (order : List ℕ) (pos : ℕ → ℕ) → 0 < length order → length order ≤ 24
    → ((p : ℕ) → p < length order → (slice_index order p < length order) × (pos (slice_index order p) ≡ p))
    → ((i : ℕ) → i < length order → (pos i < length order) × (slice_index order (pos i) ≡ i))
    → Order order × ((i : ℕ) → i < length order → position order i ≡ pos i)

-- For a loop over the bytes: the records one by one, the cells before each, and the end without a fault.
abbrev pub RecordsByFours : Type 0
RecordsByFours = (bytes : List ℕ)
    → (length (records bytes) ≡ length bytes / 4)
    × ((i : ℕ) → i < length (records bytes)
    → nth (records bytes) i ≡ read (slice_index bytes (4 * i)) (slice_index bytes (4 * i + 1)) (slice_index bytes (4 * i + 2)) (slice_index bytes (4 * i + 3)))
    × ((i : ℕ) → i < length (records bytes)
    → declared [] (take (i + 1) (records bytes)) ≡ declare (declared [] (take i (records bytes))) (nth (records bytes) i))

abbrev pub ChecksPassed : Type 0
ChecksPassed = (order : List ℕ) (L q : ℕ) (bytes : List ℕ) → length bytes % 4 ≡ 0
    → ((k : ℕ) → k < length (records bytes) → fault order L q (declared [] (take k (records bytes))) (nth (records bytes) k) ≡ 0)
    → check_patch order L q bytes ≡ passed

-- The list of paths of a patch holds exactly its paths, each once.
abbrev pub ListsPaths : Type 0
ListsPaths = (order : List ℕ) (q : ℕ) (bytes : List ℕ) → Order order → Patch order q bytes → (x : ℕ → Bool)
    → ((p : List ℕ) → IsPath (records bytes) x p ↔ Among p (paths (records bytes) (length order) x)) × Distinct (paths (records bytes) (length order) x)

-- Whatever gives the values of the cells gives the rule, by the outlet arcs; and there are values.
abbrev pub RuleByValues : Type 0
RuleByValues = (q : ℕ) (plus times : ℕ → ℕ → ℕ) (neg inv : ℕ → ℕ) → CodeField q plus times neg inv
    → (order bytes : List ℕ) → Order order → Patch order q bytes → (setting : ℕ) (V : ℕ → ℕ) → ((u : ℕ) → u ≤ cells_of (records bytes) → V u < q)
    → Values plus times (records bytes) (bit setting) V → rule plus times order bytes setting ≡ flow plus times (records bytes) starts V

abbrev pub HasValues : Type 0
HasValues = (q : ℕ) (plus times : ℕ → ℕ → ℕ) (neg inv : ℕ → ℕ) → CodeField q plus times neg inv
    → (order bytes : List ℕ) → Order order → Patch order q bytes → (setting : ℕ)
    → (V : ℕ → ℕ) × ((u : ℕ) → V u < q) × Values plus times (records bytes) (bit setting) V

-- The same by the patch's diagram: off, on minus off, outlet.
abbrev pub RuleByDiagram : Type 0
RuleByDiagram = (q : ℕ) (plus times : ℕ → ℕ → ℕ) (neg inv : ℕ → ℕ) → CodeField q plus times neg inv
    → (order bytes : List ℕ) → Order order → Patch order q bytes → (setting : ℕ) (V : ℕ → ℕ) → ((u : ℕ) → u ≤ cells_of (records bytes) → V u < q)
    → Solves plus times (cells_of (records bytes)) (reads (records bytes)) (off_to plus (records bytes)) (dif_to plus (records bytes) neg) (bit setting) V
    → rule plus times order bytes setting ≡ along plus times (cells_of (records bytes)) (out_to plus (records bytes)) V

-- It is a diagram: its entries are codes, and 0 but at cell 0 and at cells of a later input.
abbrev pub PatchDiagram : Type 0
PatchDiagram = (q : ℕ) (plus times : ℕ → ℕ → ℕ) (neg inv : ℕ → ℕ) → CodeField q plus times neg inv
    → (order bytes : List ℕ) → Order order → Patch order q bytes → (t u : ℕ)
    → (off_to plus (records bytes) t u < q) × (dif_to plus (records bytes) neg t u < q) × (out_to plus (records bytes) u < q)
    × (off_to plus (records bytes) t u ≢ 0 → Later order (declared [] (records bytes)) t u)
    × (dif_to plus (records bytes) neg t u ≢ 0 → Later order (declared [] (records bytes)) t u)

-- At gates the rule is the parity of the number of paths all of whose codes are 1.
abbrev pub Parity : Type 0
Parity = (order bytes : List ℕ) → Order order → Patch order 2 bytes → (setting : ℕ)
    → rule bit_xor bit_and order bytes setting ≡ number_of_ones (records bytes) (paths (records bytes) (length order) (bit setting)) % 2

-- The encoding of a diagram in echelon form has k cells and its rule, keeps the order and the first four conditions of the settled form,
-- and is a patch if cell numbers and codes fit into bytes.
abbrev pub Encodes : Type 0
Encodes = (q : ℕ) (plus times : ℕ → ℕ → ℕ) (neg inv : ℕ → ℕ) → CodeField q plus times neg inv → (order : List ℕ) → Order order
    → (k : ℕ) (inp : ℕ → ℕ) (row : ℕ → ℕ → ℕ) (out head : ℕ → ℕ) → EchelonNumbers order q k inp row out head
    → (k < 256 → q ≤ 256 → Patch order q (encode k inp row out)) × Kept order (records (encode k inp row out)) × (cells_of (records (encode k inp row out)) ≡ k)
    × ((setting : ℕ) (V : ℕ → ℕ) → ((u : ℕ) → u ≤ k → V u < q) → RowValues plus times k inp row (bit setting) V
    → rule plus times order (encode k inp row out) setting ≡ fold 0 plus (suc k) (λ t. times (out t) (V t)))

-- Diagrams that agree where it counts have the same bytes.
abbrev pub EncodesSame : Type 0
EncodesSame = (k : ℕ) (inp inp' : ℕ → ℕ) (row row' : ℕ → ℕ → ℕ) (out out' : ℕ → ℕ) → ((j : ℕ) → 0 < j → j ≤ k → inp j ≡ inp' j)
    → ((j t : ℕ) → j ≤ k → t < j → row j t ≡ row' j t) → ((t : ℕ) → t ≤ k → out t ≡ out' t) → encode k inp row out ≡ encode k inp' row' out'

-- Every diagram in echelon form has values at every setting.
abbrev pub RowValuesExist : Type 0
RowValuesExist = (q : ℕ) (plus times : ℕ → ℕ → ℕ) (neg inv : ℕ → ℕ) → CodeField q plus times neg inv → (order : List ℕ) → Order order
    → (k : ℕ) (inp : ℕ → ℕ) (row : ℕ → ℕ → ℕ) (out head : ℕ → ℕ) → EchelonNumbers order q k inp row out head
    → (setting : ℕ) → (V : ℕ → ℕ) × ((u : ℕ) → V u < q) × RowValues plus times k inp row (bit setting) V

-- And the other way: a patch that keeps the order and the first four conditions is the encoding of a diagram in echelon form.
abbrev pub Decodes : Type 0
Decodes = (order : List ℕ) (q : ℕ) → 0 < q → Order order → (bytes : List ℕ) → Patch order q bytes → Kept order (records bytes)
    → (row : ℕ → ℕ → ℕ) × (out : ℕ → ℕ) × (head : ℕ → ℕ) × EchelonNumbers order q (cells_of (records bytes)) (reads (records bytes)) row out head
    × (bytes ≡ encode (cells_of (records bytes)) (reads (records bytes)) row out)

-- To agree at every setting is to agree whatever the inputs are.
abbrev pub SettingsInputs : Type 0
SettingsInputs = (plus times : ℕ → ℕ → ℕ) (order : List ℕ) (q : ℕ) → Order order → (bytes others : List ℕ) → Patch order q bytes → Patch order q others
    → SameRule plus times order bytes others
    ↔ ((x : ℕ → Bool) → path_sum plus times (records bytes) (length order) x ≡ path_sum plus times (records others) (length order) x)

-- `made` makes one bit, and leaves the others.
abbrev pub Made : Type 0
Made = (setting i v : ℕ) → v < 2
    → (bit (made setting i v) i ≡ (v == 1)) × ((j : ℕ) → j ≢ i → bit (made setting i v) j ≡ bit setting j)
    × ((n : ℕ) → i < n → setting < 2 ^ n → made setting i v < 2 ^ n)
