-- Numbers that pass the check for at most 256 places and codes are bytes, and so a patch. Assumes nothing.
use Rattle.std.proofs.Common.{◌≡◌, ℕ, ◌%◌, ◌<◌, ◌≤◌, Bool, true, false, cond, eqb, List, [], ◌∷◌, length, refl, subst, arith}
use Rattle.std.proofs.lemmas.Bool.{eqb-true}
use Rattle.patch.specs.Records.{Record, filler, cell, off, on, outlet, unmarked, unclean, records, declare, declared, cells_of}
use Rattle.patch.specs.Faults.{passed, refused, check_from, check_patch, Bytes, Fine, AllFine, Patch}
use Rattle.patch.proofs.Checked.{declare_more, declared_more, sound_fine, no_sound}
use Rattle.patch.proofs.Decoded.{rebuilt, all_real}
use Rattle.patch.proofs.Each.{Each}
use Rattle.patch.proofs.Held.{Small, written_held}

module _ (order : List ℕ) (L q : ℕ) (inputs : length order ≤ 256) (places : L ≤ 256) (codes : q ≤ 256) where
  fine_small : (cells : List ℕ) (r : Record) → length cells < L → Fine order q cells r → Small r
  fine_small cells filler l f = tt
  fine_small cells (cell i) l f = omega arith
  fine_small cells (off g t c) l f = (omega (arith, f.from_known), omega (arith, f.to_known), omega (arith, f.code))
  fine_small cells (on g t c) l f = (omega (arith, f.from_known), omega (arith, f.to_known), omega (arith, f.code))
  fine_small cells (outlet t c) l f = (omega (arith, f.0), omega (arith, f.1))
  fine_small cells unmarked l f = tt
  fine_small cells unclean l f = tt

  all_small : (rs : List Record) (cells : List ℕ) → length (declared cells rs) < L → AllFine order q cells rs → Each Small rs
  all_small [] cells l a = tt
  all_small (r ∷ rs) cells l a = (
    fine_small cells r (omega (arith, declare_more cells r, declared_more rs (declare cells r))) a.0,
    all_small rs (declare cells r) l a.1,
  )

  pub passed_patch : (bytes : List ℕ) → 0 < L → check_patch order L q bytes ≡ passed → Patch order q bytes × (cells_of (records bytes) < L)
  passed_patch bytes l e = go (eqb (length bytes % 4) 0) refl e
    where
      go : (b : Bool) → eqb (length bytes % 4) 0 ≡ b → cond b (check_from order L q 0 [] (records bytes)) (refused 11 0) ≡ passed
          → Patch order q bytes × (cells_of (records bytes) < L)
      go true t s =
          let a = sound_fine order L q (records bytes) 0 [] l s in
          let fours : length bytes % 4 ≡ 0 = eqb-true _ 0 t in (
            record {
              held = subst Bytes (rebuilt bytes fours (all_real order q (records bytes) [] a.0)) (written_held (records bytes) (all_small (records bytes) [] a.1 a.0));
              fours = fours;
              fine = a.0;
            },
            a.1,
          )
      go false t s = absurd (no_sound s)
