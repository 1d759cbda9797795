-- What the whole check answers, and what bytes that pass it are. Assumes nothing.
use Rattle.std.proofs.Common.{◌≡◌, ℕ, zero, suc, ◌+◌, ◌%◌, ◌<◌, ◌≤◌, Bool, true, false, cond, eqb, ltb, leb, ◌≢◌, ◌↔◌, List, [], ◌∷◌, length, sym, refl, ap, ◌∙◌, arith}
use Rattle.std.proofs.lemmas.Bool.{cond-true, cond-false, lt-ltb, le-ltb, eq-eqb, le-leb, ltb-false, true≢false}
use Rattle.patch.specs.declared.setup.Setup.{Setup}
use Rattle.patch.specs.declared.window.Patch.{Patch as Window}
use Rattle.patch.specs.Records.{Record, filler, cell, off, on, outlet, unmarked, unclean, records, declare, cells_of, Readable}
use Rattle.patch.specs.Faults.{Verdict, passed, refused, fault, check_from, check_patch, Bytes, Patch}
use Rattle.patch.specs.Admitted.{examined, passes, Admitted}
use Rattle.patch.specs.Orders.{listed}
use Rattle.patch.specs.Windows.{seen, Admits}
use Rattle.patch.proofs.Checked.{checks_sound, checks_length, records_length}
use Rattle.patch.proofs.Facts.{readable}
use Rattle.patch.proofs.Orders.{lawful}

module _ (order : List ℕ) (L q : ℕ) (bytes : List ℕ) where
  pub examined_long : 65536 < length bytes → examined order L q bytes ≡ refused 10 0
  unfolding examined
  examined_long h = cond-true _ _ _ (lt-ltb _ _ h)

  pub examined_short : length bytes ≤ 65536 → examined order L q bytes ≡ check_patch order L q bytes
  unfolding examined
  examined_short h = cond-false _ _ _ (le-ltb _ _ h)

  pub examined_broken : length bytes ≤ 65536 → length bytes % 4 ≢ 0 → examined order L q bytes ≡ refused 11 0
  examined_broken h n = examined_short h ∙ checks_length order L q bytes n

  pub examined_records : length bytes ≤ 65536 → length bytes % 4 ≡ 0 → examined order L q bytes ≡ check_from order L q 0 [] (records bytes)
  examined_records h n = examined_short h ∙ cond-true _ _ _ (eq-eqb _ 0 n)

  is_passed : (v : Verdict) → passes v ≡ true → v ≡ passed
  is_passed passed e = refl
  is_passed (refused n k) e = absurd (true≢false (sym e))

  sides : (b : Bool) → ltb 65536 (length bytes) ≡ b → cond b (refused 10 0) (check_patch order L q bytes) ≡ passed
      → (length bytes ≤ 65536) × (check_patch order L q bytes ≡ passed)
  sides true t e = let z : ◌≡◌ {A = ℕ} 0 1 = cc in absurd (omega arith)
  sides false t e = (ltb-false _ _ t, e)

  parts : Admitted order L q bytes → (length bytes ≤ 65536) × (check_patch order L q bytes ≡ passed)
  unfolding examined
  parts a = sides (ltb 65536 (length bytes)) refl (is_passed (examined order L q bytes) a.1)

  pub admitted_short : Admitted order L q bytes → length bytes ≤ 65536
  admitted_short a = (parts a).0

  pub admitted_passed : Admitted order L q bytes → check_patch order L q bytes ≡ passed
  admitted_passed a = (parts a).1

  pub passed_admitted : Bytes bytes → length bytes ≤ 65536 → check_patch order L q bytes ≡ passed → Admitted order L q bytes
  passed_admitted b h e = (b, ap passes (examined_short h ∙ e))

  pub admitted_cells : 0 < L → Admitted order L q bytes → cells_of (records bytes) < L
  admitted_cells l a = ((checks_sound order L q bytes l a.0).0 (admitted_passed a)).1

-- with no places at all the check is as with one
fault_none : (order : List ℕ) (q : ℕ) (cells : List ℕ) (r : Record) → fault order 0 q cells r ≡ fault order 1 q cells r
fault_none order q cells filler = refl
fault_none order q cells (cell i) = ap (λ b. cond (leb (length order) i) 14 (cond b 15 0)) (le-leb 0 (length cells + 1) (omega arith) ∙ sym (le-leb 1 (length cells + 1) (omega arith)))
fault_none order q cells (off f t c) = refl
fault_none order q cells (on f t c) = refl
fault_none order q cells (outlet t c) = refl
fault_none order q cells unmarked = refl
fault_none order q cells unclean = refl

from_none : (order : List ℕ) (q : ℕ) (rs : List Record) (k : ℕ) (cells : List ℕ) → check_from order 0 q k cells rs ≡ check_from order 1 q k cells rs
from_none order q [] k cells = refl
from_none order q (r ∷ rs) k cells = rw (fault_none order q cells r, from_none order q rs (k + 1) (declare cells r)) refl

sound_patch : (order : List ℕ) (L q : ℕ) (bytes : List ℕ) → Bytes bytes → check_patch order L q bytes ≡ passed → Patch order q bytes
sound_patch order zero q bytes b e =
    let same : check_patch order 0 q bytes ≡ check_patch order 1 q bytes =
    ap (λ v. cond (eqb (length bytes % 4) 0) v (refused 11 0)) (from_none order q (records bytes) 0 []) in
    ((checks_sound order 1 q bytes (omega arith) b).0 (sym same ∙ e)).0
sound_patch order (suc L) q bytes b e = ((checks_sound order (suc L) q bytes (omega arith) b).0 e).0

pub admitted_patch : (order : List ℕ) (L q : ℕ) (bytes : List ℕ) → Admitted order L q bytes → Patch order q bytes
admitted_patch order L q bytes a = sound_patch order L q bytes a.0 (admitted_passed order L q bytes a)

pub admitted_none : (order : List ℕ) (L q : ℕ) → Admitted order L q []
unfolding examined
admitted_none order L q = (λ i h. absurd (omega arith), refl)

pub admits_patches : (order : List ℕ) (L q : ℕ) (bytes : List ℕ) → 0 < L
    → Admitted order L q bytes ↔ (Patch order q bytes × (cells_of (records bytes) < L) × (length bytes ≤ 65536))
admits_patches order L q bytes l = (
  λ a. (admitted_patch order L q bytes a, admitted_cells order L q bytes l a, admitted_short order L q bytes a),
  λ p. passed_admitted order L q bytes p.0.held p.2 ((checks_sound order L q bytes l p.0.held).1 (p.0, p.1)),
)

pub shows_all : (bytes : List ℕ) (setup : Setup) (w : Window) → Admits bytes setup w → examined (listed setup.order) setup.places setup.codes bytes ≡ passed → seen w ≡ bytes
shows_all bytes setup w a e = a.shows ∙ cond-true _ _ _ (ap passes e)

pub shows_readable : (w : Window) → Readable (records (seen w))
shows_readable w =
    let setup = w.setup in
    readable (listed setup.order) setup.codes (seen w) (lawful setup.order) (admitted_patch (listed setup.order) setup.places setup.codes (seen w) w.admitted)

pub shows_few : (w : Window) → length (records (seen w)) ≤ 16384
shows_few w = omega (arith, admitted_short (listed w.setup.order) w.setup.places w.setup.codes (seen w) w.admitted, records_length (seen w))
