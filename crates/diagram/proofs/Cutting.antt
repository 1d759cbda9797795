-- Places that no row and no outlet leads to can be left out. Assumes nothing.
use Rattle.std.proofs.Common.{◌≡◌, ℕ, ◌<◌, ◌≤◌, sym, ap, ◌∙◌, ap₂, arith}
use Rattle.linear.specs.Field.{Field}
use Rattle.linear.specs.Linear.{comb}
use Rattle.linear.proofs.Ring.{zero_times}
use Rattle.linear.proofs.Sums.{sum_cong}
use Rattle.diagram.specs.Diagram.{Assignment, Diagram, Formed, bit, val, rule}
use Rattle.diagram.proofs.Levels.{sum_cut}
use Rattle.diagram.proofs.Values.{opens, open_val, steady_val, val_unique}

-- D's places below b
abbrev pub first_places : {K : Type 0} → Diagram K → ℕ → Diagram K
first_places D b = record { places = b; pos = D.pos; off = D.off; dif = D.dif; out = D.out }

module _ {K : Type 0} (F : Field K) (n : ℕ) (D : Diagram K) (form : Formed F n D) (b : ℕ) (less : b ≤ D.places) (steady : form.steady < b)
    (off_none : (t u : ℕ) → t < b → b ≤ u → u < D.places → D.off t u ≡ F.zero) (dif_none : (t u : ℕ) → t < b → b ≤ u → u < D.places → D.dif t u ≡ F.zero)
    (out_none : (u : ℕ) → b ≤ u → u < D.places → D.out u ≡ F.zero) where
  short : (r : ℕ → K) → ((u : ℕ) → b ≤ u → u < D.places → r u ≡ F.zero) → (a : Assignment) → comb F D.places r (val F n D) a ≡ comb F b r (val F n D) a
  short r none a =
      sum_cut F b D.places (λ u. F.times (r u) (val F n D u a)) less (λ u h k. ap (λ y. F.times y (val F n D u a)) (none u h k) ∙ zero_times F _)

  pub first_formed : Formed F n (first_places D b)
  first_formed = record {
    steady = form.steady;
    steady_in = steady;
    steady_pos = form.steady_pos;
    others = λ t h. form.others t (omega arith);
    off_later = λ t u h k. form.off_later t u (omega arith) (omega arith);
    dif_later = λ t u h k. form.dif_later t u (omega arith) (omega arith);
  }

  pub first_val : (t : ℕ) → t < b → (a : Assignment) → val F n D t a ≡ val F n (first_places D b) t a
  unfolding opens
  first_val =
      val_unique F n (first_places D b) first_formed (val F n D) (λ t a h l. steady_val F n D form t l a) (
      λ t a h l.
      open_val F n D form t (omega arith) l a
      ∙ ap₂ F.plus (short (D.off t) (λ u. off_none t u h) a) (ap (F.times (bit F (a (D.pos t)))) (short (D.dif t) (λ u. dif_none t u h) a)))

  pub first_rule : (a : Assignment) → rule F n (first_places D b) a ≡ rule F n D a
  first_rule a = sym (short D.out out_none a ∙ sum_cong F b _ _ (λ t h. ap (F.times (D.out t)) (first_val t h a)))
