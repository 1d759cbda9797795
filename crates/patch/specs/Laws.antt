-- What the words of the calls' contracts imply. Assumes nothing.
use Rattle.std.specs.Prelude.{◌≡◌, ℕ, ◌^◌, ◌<◌, ◌≤◌, ◌↔◌, List, [], ◌∷◌, ◌++◌, length, codes, decimal, slice_index}
use Rattle.std.specs.Str.Parse.{IsNumeral, digits_value}
use Rattle.patch.specs.declared.order.ScanOrder.{ScanOrder}
use Rattle.patch.specs.declared.setup.Setup.{Setup}
use Rattle.patch.specs.declared.window.Patch.{Patch as Window}
use Rattle.patch.specs.declared.refusal.Refusal.TheVariants.{ArcCode, TooManyCells}
use Rattle.patch.specs.Admitted.{examined, Admitted}
use Rattle.patch.specs.Faults.{passed, Order, Patch}
use Rattle.patch.specs.Listing.{listing_text, refusal_text, solid}
use Rattle.patch.specs.Orders.{listed}
use Rattle.patch.specs.Records.{filler, cell, off, on, outlet, records, cells_of}
use Rattle.patch.specs.Windows.{seen, Admits}

-- Every scan order lists each of its inputs once, and positions and inputs undo each other.
abbrev pub OrdersLawful : Type 0
OrdersLawful = (s : ScanOrder) → Order (listed s)

-- What a window shows is a patch of at most 65,536 bytes.
abbrev pub WindowsShowPatches : Type 0
WindowsShowPatches = (w : Window) → Patch (listed w.setup.order) w.setup.codes (seen w) × (length (seen w) ≤ 65536)

-- A window taken on bytes that pass the check shows them all.
abbrev pub WindowsShowAll : Type 0
WindowsShowAll = (bytes : List ℕ) (setup : Setup) (w : Window) → Admits bytes setup w → examined (listed setup.order) setup.places setup.codes bytes ≡ passed → seen w ≡ bytes

-- Where there are places, exactly the patches of fewer cells than places and at most 65,536 bytes are admitted.
abbrev pub AdmitsPatches : Type 0
AdmitsPatches = (order : List ℕ) (L q : ℕ) (bytes : List ℕ) → 0 < L
    → Admitted order L q bytes ↔ (Patch order q bytes × (cells_of (records bytes) < L) × (length bytes ≤ 65536))

-- A printed number is made of digits, reads back as itself, and has no leading zero.
abbrev pub NumbersReadBack : Type 0
NumbersReadBack = (n : ℕ) → n < 2 ^ 64
    → IsNumeral 10 (decimal n) × (digits_value 10 (decimal n) ≡ n) × (0 < n → 48 < slice_index (decimal n) 0) × (n ≡ 0 → decimal n ≡ 48 ∷ [])

-- Two admitted patches have the same listing exactly where they have the same records but for filler.
abbrev pub ListingTells : Type 0
ListingTells = (order other : List ℕ) (L M q r : ℕ) (bytes others : List ℕ) → Admitted order L q bytes → Admitted other M r others
    → (listing_text (records bytes) ≡ listing_text (records others)) ↔ (solid (records bytes) ≡ solid (records others))

-- Texts, byte by byte: every kind of line, a patch of filler alone, a refusal.
abbrev pub Texts : Type 0
Texts =
    (listing_text (filler ∷ cell 23 ∷ on 1 0 1 ∷ cell 9 ∷ off 2 1 126 ∷ outlet 2 10 ∷ filler ∷ [])
    ≡ codes "cell 1 input 23" ++ 10 ∷ codes "on 1 0 1" ++ 10 ∷ codes "cell 2 input 9" ++ 10 ∷ codes "off 2 1 126" ++ 10 ∷ codes "out 2 10" ++ 10 ∷ [])
    × (listing_text (filler ∷ filler ∷ []) ≡ codes "silent" ++ 10 ∷ [])
    × (refusal_text (ArcCode 16383) ≡ codes "refused 18 16383" ++ 10 ∷ [])
    × (refusal_text TooManyCells ≡ codes "refused 19 0" ++ 10 ∷ [])
