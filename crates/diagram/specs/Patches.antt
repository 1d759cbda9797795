-- Patches and diagrams: a patch is a diagram; the encoding of a canonical diagram is the settled patch of its rule; a rule that has a patch has a settled one, and only one. Assumes nothing.
use Rattle.std.specs.Prelude.{◌≡◌, ℕ, suc, ◌-◌, ◌^◌, ◌<◌, ◌≤◌, Bool, cond, ◌↔◌, List, length, ◌==◌, slice_index}
use Rattle.linear.specs.Codes.{CodeField, Code, codes, as_code}
use Rattle.linear.specs.Field.{Field}
use Rattle.patch.specs.Encoding.{encode}
use Rattle.patch.specs.Faults.{position, Order, Patch}
use Rattle.patch.specs.Paths.{bit as bit_of, path_sum, rule as rule_of}
use Rattle.patch.specs.Records.{records, reads, cells_of}
use Rattle.patch.specs.Settings.{made}
use Rattle.patch.specs.Settled.{Kept, Settled}
use Rattle.patch.specs.Values.{off_to, dif_to, out_to}
use Rattle.diagram.specs.Canonical.{Echelon, CanonicalCells, Canonical, Local}
use Rattle.diagram.specs.Diagram.{Assignment, turn, Diagram, Formed, rule}

-- How patches are read: by q codes, which are bytes and with these operations make a field, and in a scan order.
pub record Reading : Type 0 where
  pub q : ℕ
  pub plus : ℕ → ℕ → ℕ
  pub times : ℕ → ℕ → ℕ
  pub neg : ℕ → ℕ
  pub inv : ℕ → ℕ
  pub field : CodeField q plus times neg inv
  pub few : q ≤ 256
  pub order : List ℕ
  pub ordered : Order order

-- every diagram of the rule f has at least m places
abbrev pub Needs : {K : Type 0} → Field K → ℕ → (Assignment → K) → ℕ → Type 0
Needs {K = K} F n f m = (E : Diagram K) → Formed F n E → ((a : Assignment) → rule F n E a ≡ f a) → m ≤ E.places

module _ (R : Reading) where
  open R use {q, plus, times, neg, field, order}

  -- its codes as a field, and the number of its inputs
  abbrev pub scalars : Field (Code q)
  scalars = codes field

  abbrev pub inputs : ℕ
  inputs = length order

  -- what each position reads at a setting: the bit of the input that the scan order lists there
  abbrev pub reads_as : ℕ → Assignment
  reads_as setting p = bit_of setting (slice_index order p)

  -- a rule over assignments as one over settings, in numbers
  abbrev pub at_settings : (Assignment → Code q) → ℕ → ℕ
  at_settings f setting = (f (reads_as setting)).0

  -- two rules agree at every setting
  abbrev pub Agree : (ℕ → ℕ) → (ℕ → ℕ) → Type 0
  Agree f g = (setting : ℕ) → setting < 2 ^ inputs → f setting ≡ g setting

  -- bytes are a patch of the rule f, and they are its settled patch
  abbrev pub PatchOf : (ℕ → ℕ) → List ℕ → Type 0
  PatchOf f bytes = Patch order q bytes × Agree (rule_of plus times order bytes) f

  abbrev pub SettledOf : (ℕ → ℕ) → List ℕ → Type 0
  SettledOf f bytes = Settled q plus times order bytes × Agree (rule_of plus times order bytes) f

  -- The diagram of a patch: place 0 is the steady cell, place t is cell t, and arcs with the same ends are added up: off arcs, on arcs minus off arcs, outlet arcs.
  abbrev pub patch_diagram : List ℕ → Diagram (Code q)
  patch_diagram bytes = record {
    places = suc (cells_of (records bytes));
    pos = λ t. cond (t == 0) inputs (position order (reads (records bytes) t));
    off = λ t u. as_code field (off_to plus (records bytes) t u);
    dif = λ t u. as_code field (dif_to plus (records bytes) neg t u);
    out = λ u. as_code field (out_to plus (records bytes) u);
  }

  -- The encoding of a diagram whose place 0 is steady and that has no rows off: cell records, on arcs by cell and target, outlet arcs by target.
  abbrev pub encoding : Diagram (Code q) → List ℕ
  encoding D = encode (D.places - 1) (λ j. slice_index order (D.pos j)) (λ j t. (D.dif j t).0) (λ t. (D.out t).0)

  -- A patch is a diagram with as many cells, and with its rule: at an assignment, what the patch has at each setting that reads so.
  abbrev pub PatchIsDiagram : Type 0
  PatchIsDiagram = (bytes : List ℕ) → Patch order q bytes
      → Formed scalars inputs (patch_diagram bytes) × ((patch_diagram bytes).places ≡ suc (cells_of (records bytes)))
      × ((a : Assignment) (setting : ℕ) → ((p : ℕ) → p < inputs → reads_as setting p ≡ a p)
      → (rule scalars inputs (patch_diagram bytes) a).0 ≡ rule_of plus times order bytes setting)

  -- Every assignment is what some setting reads; so rules that look at the scan order's positions only agree at every setting exactly where they agree at every assignment.
  abbrev pub SomeSettingReads : Type 0
  SomeSettingReads = (a : Assignment) → (setting : ℕ) × (setting < 2 ^ inputs) × ((p : ℕ) → p < inputs → reads_as setting p ≡ a p)

  abbrev pub SettingsSuffice : Type 0 → Type 0
  SettingsSuffice K = (f g : Assignment → K) → Local inputs f → Local inputs g
      → ((setting : ℕ) → setting < 2 ^ inputs → f (reads_as setting) ≡ g (reads_as setting)) ↔ ((a : Assignment) → f a ≡ g a)

  -- A setting with the bit of input i made v reads as the assignment with that input's position turned to v.
  abbrev pub MadeTurns : Type 0
  MadeTurns = (setting i v : ℕ) → i < inputs → v < 2 → (p : ℕ) → p < inputs → reads_as (made setting i v) p ≡ turn (position order i) (v == 1) (reads_as setting) p

  -- The rule of a patch depends on the inputs of the scan order only.
  abbrev pub DependsOnInputs : Type 0
  DependsOnInputs = (bytes : List ℕ) → Patch order q bytes → (x y : ℕ → Bool) → ((i : ℕ) → i < inputs → x i ≡ y i)
      → path_sum plus times (records bytes) inputs x ≡ path_sum plus times (records bytes) inputs y

  -- The encoding of a diagram in echelon form of at most 255 cells is a patch of its rule with as many cells, in the settled form's order and with its first four conditions;
  -- and the other way, such a patch is the encoding of a diagram in echelon form, and it has at most 255 cells.
  abbrev pub EchelonEncodes : Type 0
  EchelonEncodes = (D : Diagram (Code q)) → Echelon scalars inputs D → D.places ≤ 256
      → PatchOf (at_settings (rule scalars inputs D)) (encoding D) × Kept order (records (encoding D)) × (D.places ≡ suc (cells_of (records (encoding D))))

  abbrev pub EchelonDecodes : Type 0
  EchelonDecodes = (bytes : List ℕ) → Patch order q bytes → Kept order (records bytes)
      → (D : Diagram (Code q)) × Echelon scalars inputs D × (D.places ≤ 256) × (bytes ≡ encoding D)

  -- The encoding of a diagram of at most 31 cells is not long.
  abbrev pub EncodingShort : Type 0
  EncodingShort = (D : Diagram (Code q)) → D.places ≤ 32 → length (encoding D) ≤ 2236

  -- The encoding of a canonical diagram is the settled patch of its rule; and the other way, a settled patch is the encoding of a canonical diagram.
  abbrev pub CanonicalIsSettled : Type 0
  CanonicalIsSettled = (D : Diagram (Code q)) → Canonical scalars inputs D → D.places ≤ 256 → SettledOf (at_settings (rule scalars inputs D)) (encoding D)

  abbrev pub SettledIsCanonical : Type 0
  SettledIsCanonical = (bytes : List ℕ) → Settled q plus times order bytes
      → (D : Diagram (Code q)) × Canonical scalars inputs D × (D.places ≤ 256) × (bytes ≡ encoding D)

  -- If every diagram of the rule f has at least m + 1 places, every patch of it has at least m cells; and it has as many as there are canonical cells of f, all of them or the first few.
  abbrev pub PatchesNeed : Type 0
  PatchesNeed = (f : Assignment → Code q) → Local inputs f → (m : ℕ) → Needs scalars inputs f (suc m)
      → (bytes : List ℕ) → PatchOf (at_settings f) bytes → m ≤ cells_of (records bytes)

  abbrev pub SmallestPatch : Type 0
  SmallestPatch = (f : Assignment → Code q) → Local inputs f → (D : Diagram (Code q)) → CanonicalCells scalars inputs f D
      → (bytes : List ℕ) → PatchOf (at_settings f) bytes → D.places ≤ suc (cells_of (records bytes))

  -- A rule has at most one settled patch, and one if it has a patch.
  abbrev pub OnlyOne : Type 0
  OnlyOne = (f : ℕ → ℕ) (bytes others : List ℕ) → SettledOf f bytes → SettledOf f others → bytes ≡ others

  abbrev pub ExistsIfPatch : Type 0
  ExistsIfPatch = (f : ℕ → ℕ) (bytes : List ℕ) → PatchOf f bytes → (settled : List ℕ) × SettledOf f settled
