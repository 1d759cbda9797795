-- What is proved of independent functions and of reduced rows. Assumes nothing.
use Rattle.std.specs.Prelude.{◌≡◌, ℕ, ◌<◌, ◌≤◌}
use Rattle.linear.specs.Codes.{CodeField, IndependentCodes, SpannedCodes, ReducedCodes, SpannedCodesBelow}
use Rattle.linear.specs.Field.{Field}
use Rattle.linear.specs.Linear.{comb, Independent, Spanned, Reduced, SpannedOn, SameOn}

-- Independent functions that are combinations of m functions are at most m.
abbrev pub Dimension : Type 0 → Type 0 → Type 0
Dimension K X = (F : Field K) (k m : ℕ) (φ ψ : ℕ → X → K) → Independent F k φ → ((i : ℕ) → i < k → Spanned F m ψ (φ i)) → k ≤ m

-- Two systems of reduced rows whose rows are combinations of each other are the same.
abbrev pub Unique : Type 0 → Type 0
Unique K = (F : Field K) (n m : ℕ) (r s : ℕ → ℕ → K) (h g : ℕ → ℕ) → Reduced F n r h → Reduced F m s g
    → ((i : ℕ) → i < n → Spanned F m s (r i)) → ((i : ℕ) → i < m → Spanned F n r (s i))
    → (n ≡ m) × ((i : ℕ) → i < n → (h i ≡ g i) × ((t : ℕ) → r i t ≡ s i t))

-- the same of rows of a width w
abbrev pub UniqueBelow : Type 0 → Type 0
UniqueBelow K = (F : Field K) (w n m : ℕ) (r s : ℕ → ℕ → K) (h g : ℕ → ℕ) → Reduced F n r h → Reduced F m s g
    → ((i : ℕ) → i < n → h i < w) → ((i : ℕ) → i < m → g i < w)
    → ((i : ℕ) → i < n → SpannedOn F (λ t. t < w) m s (r i)) → ((i : ℕ) → i < m → SpannedOn F (λ t. t < w) n r (s i))
    → SameOn (λ t. t < w) n m r s h g

-- The coefficients of a combination of reduced rows are its entries at their heads.
abbrev pub Coefficient : Type 0 → Type 0
Coefficient K = (F : Field K) (n : ℕ) (r : ℕ → ℕ → K) (h : ℕ → ℕ) → Reduced F n r h
    → (d c : ℕ → K) → ((t : ℕ) → d t ≡ comb F n c r t) → (j : ℕ) → j < n → c j ≡ d (h j)

-- the same for numbers below q, with laws that hold below q
abbrev pub DimensionCodes : Type 0 → Type 0
DimensionCodes X = (q : ℕ) (plus times : ℕ → ℕ → ℕ) (neg inv : ℕ → ℕ) → CodeField q plus times neg inv
    → (k m : ℕ) (φ ψ : ℕ → X → ℕ) → ((i : ℕ) (x : X) → i < k → φ i x < q) → ((i : ℕ) (x : X) → i < m → ψ i x < q)
    → IndependentCodes q plus times k φ → ((i : ℕ) → i < k → SpannedCodes q plus times m ψ (φ i)) → k ≤ m

abbrev pub UniqueCodes : Type 0
UniqueCodes = (q : ℕ) (plus times : ℕ → ℕ → ℕ) (neg inv : ℕ → ℕ) → CodeField q plus times neg inv
    → (w n m : ℕ) (r s : ℕ → ℕ → ℕ) (h g : ℕ → ℕ) → ReducedCodes q w n r h → ReducedCodes q w m s g
    → ((i : ℕ) → i < n → SpannedCodesBelow q plus times w m s (r i)) → ((i : ℕ) → i < m → SpannedCodesBelow q plus times w n r (s i))
    → SameOn (λ t. t < w) n m r s h g
