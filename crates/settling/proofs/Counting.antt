-- The table's rows and the cells made of them: a turn of `number`.
use Rattle.std.proofs.Common.{◌≡◌, ℕ, zero, suc, ◌+◌, ◌-◌, ◌<◌, ◌≤◌, Bool, true, false, ◌≢◌, List, get_or, Some, None, Option, sym, refl, ap, ◌∙◌, add-zero, add-one, arith, MatchOption, length, slice_set, get_or-set_same, get_or-set_other}
use native.Mathlib.Decide.{ℕ_discrete, dec_lt}
use Rattle.diagram.specs.Packed.{count, nth}
use Rattle.diagram.proofs.Pack.{count_more, count_same, nth_last, nth_old}
use Rattle.strip.specs.Row.{Row}
use Rattle.elimination.specs.Rows.{Rows}
use Rattle.elimination.proofs.Sums.{at}
use Rattle.settling.specs.Backing.{filled, Added, Numbered}

pub filled_yes : (R : ℕ → Row) (k : ℕ) → R k k ≢ 0 → filled R k ≡ true
unfolding filled
filled_yes R k n = elim (ℕ_discrete (R k k) 0) as (λ d. (elim d [ yes _ ↦ false | no _ ↦ true ]) ≡ true) [ yes e ↦ absurd (n e) | no _ ↦ refl ]

pub filled_no : (R : ℕ → Row) (k : ℕ) → R k k ≡ 0 → filled R k ≡ false
unfolding filled
filled_no R k e = elim (ℕ_discrete (R k k) 0) as (λ d. (elim d [ yes _ ↦ false | no _ ↦ true ]) ≡ false) [ yes _ ↦ refl | no n ↦ absurd (n e) ]

pub filled_true : (R : ℕ → Row) (k : ℕ) → filled R k ≡ true → R k k ≢ 0
filled_true R k e z = let both : false ≡ true = sym (filled_no R k z) ∙ e in let none : ◌≡◌ {A = ℕ} 0 1 = cc in omega arith

pub filled_false : (R : ℕ → Row) (k : ℕ) → filled R k ≡ false → R k k ≡ 0
filled_false R k e = elim (ℕ_discrete (R k k) 0) [
  | yes z ↦ z
  | no n ↦ absurd (let both : true ≡ false = sym (filled_yes R k n) ∙ e in let none : ◌≡◌ {A = ℕ} 0 1 = cc in omega arith)
]

module _ (b : ℕ → Bool) where
  pub count_step : (k : ℕ) → b k ≡ true → count b (k + 1) ≡ count b k + 1
  count_step k e = ap (count b) (add-one k) ∙ count_more b k e ∙ sym (add-one (count b k))

  pub count_skip : (k : ℕ) → b k ≡ false → count b (k + 1) ≡ count b k
  count_skip k e = ap (count b) (add-one k) ∙ count_same b k e

  pub nth_new : (k : ℕ) → b k ≡ true → nth b (k + 1) (count b k) ≡ k
  nth_new k e = ap (λ i. nth b i (count b k)) (add-one k) ∙ nth_last b k e

  pub nth_kept : (k i : ℕ) → i < count b k → nth b (k + 1) i ≡ nth b k i
  nth_kept k i l = ap (λ q. nth b q i) (add-one k) ∙ nth_old b k i l

  pub count_none : count b 0 ≡ 0
  unfolding count
  count_none = refl

  -- the count never falls
  rises : (k d : ℕ) → count b k ≤ count b (k + d)
  rises k zero = omega (arith, ap (count b) (add-zero k))
  rises k (suc d) =
      let ih = rises k d in
      let there : k + suc d ≡ suc (k + d) = omega arith in
      go (b (k + d)) refl ih (ap (count b) there)
    where
      go : (v : Bool) → b (k + d) ≡ v → count b k ≤ count b (k + d) → count b (k + suc d) ≡ count b (suc (k + d)) → count b k ≤ count b (k + suc d)
      go true e l q = omega (arith, count_more b (k + d) e)
      go false e l q = omega (arith, count_same b (k + d) e)

  pub count_rises : (k w : ℕ) → k ≤ w → count b k ≤ count b w
  count_rises k w l = let d : k + (w - k) ≡ w = omega arith in omega (arith, rises k (w - k), ap (count b) d)

module _ {S : Type 0} (code : S → Row) (w : List S) (cpos : List ℕ) (p a e size : ℕ) where
  pub numbered_none : Numbered code w cpos w cpos p a e size 0 size
  numbered_none =
      let none = count_none (filled (Rows code w 256)) in record {
        many = omega arith;
        can_old = λ i l. refl;
        can_new = λ i l. absurd (omega arith);
        pos_old = λ i l. refl;
        pos_new = λ i l. absurd (omega arith);
        img_old = λ h q l b k. refl;
        img_new = λ h i l b k. absurd (omega arith);
        img_past = λ h q l b k. refl;
        img_other = λ h l. refl;
        tab = λ i l. refl;
        off = λ i l. refl;
        dif = λ i l. refl;
      }

  module _ (w' : List S) (cpos' : List ℕ) (k j : ℕ) (n : Numbered code w cpos w' cpos' p a e size k j) where
    pub numbered_skip : filled (Rows code w 256) k ≡ false → Numbered code w cpos w' cpos' p a e size (k + 1) j
    numbered_skip no_row =
        let b : ℕ → Bool = filled (Rows code w 256) in
        let same : count b (k + 1) ≡ count b k = count_skip b k no_row in record {
          many = omega (arith, n.many);
          can_old = n.can_old;
          can_new = λ i l. (let l' : i < count b k = omega arith in n.can_new i l' ∙ ap (Rows code w 256) (sym (nth_kept b k i l')));
          pos_old = n.pos_old;
          pos_new = λ i l. n.pos_new i (omega arith);
          img_old = n.img_old;
          img_new = λ h i q r l. (let l' : i < count b k = omega arith in n.img_new h i q r l' ∙ ap (Rows code w 128 h) (sym (nth_kept b k i l')));
          img_past = n.img_past;
          img_other = n.img_other;
          tab = n.tab;
          off = n.off;
          dif = n.dif;
        }

    pub numbered_more : (w'' : List S) (cpos'' : List ℕ) → filled (Rows code w 256) k ≡ true → k < 32 → j < 32 → size ≤ 32 → a < 128 → e ≤ 128 → Added code w' w'' a e k j → cpos'' ≡ slice_set cpos' j p → j < length cpos'
        → Numbered code w cpos w'' cpos'' p a e size (k + 1) (j + 1)
    numbered_more w'' cpos'' row k_in j_in size_in a_in e_in ad put j_room =
        let b : ℕ → Bool = filled (Rows code w 256) in
        let more : count b (k + 1) ≡ count b k + 1 = count_step b k row in
        let pos_here : get_or cpos'' j 0 ≡ p = ap (λ l. get_or l j 0) put ∙ get_or-set_same cpos' j p 0 j_room in
        let pos_rest : (i : ℕ) → i ≢ j → get_or cpos'' i 0 ≡ get_or cpos' i 0 = λ i n. ap (λ l. get_or l i 0) put ∙ get_or-set_other cpos' j i p 0 n in
        let many : j ≡ size + count b k = n.many in
        let last : (i : ℕ) → i < count b (k + 1) → ¬ (i < count b k) → i ≡ count b k = λ i l o. omega arith in
        let at_last : (i : ℕ) → i ≡ count b k → nth b (k + 1) i ≡ k = λ i q. ap (nth b (k + 1)) q ∙ nth_new b k row in record {
          many = omega arith;
          can_old = λ i l. ad.can_rest i (omega arith) (omega arith) ∙ n.can_old i l;
          can_new = λ i l. elim (dec_lt i (count b k)) [
            | yes o ↦ ad.can_rest (size + i) (omega arith) (omega arith) ∙ n.can_new i o ∙ ap (Rows code w 256) (sym (nth_kept b k i o))
            | no o ↦ (
                let q : i ≡ count b k = last i l o in
                let there : size + i ≡ j = omega arith in
                ap (Rows code w'' 288) there ∙ ad.can_here ∙ n.tab k k_in ∙ ap (Rows code w 256) (sym (at_last i q))
                )
          ];
          pos_old = λ i l. pos_rest i (omega arith) ∙ n.pos_old i l;
          pos_new = λ i l. elim (dec_lt i (count b k)) [
            | yes o ↦ pos_rest (size + i) (omega arith) ∙ n.pos_new i o
            | no o ↦ (
                let q : i ≡ count b k = last i l o in
                let there : size + i ≡ j = omega arith in
                ap (λ t. get_or cpos'' t 0) there ∙ pos_here
                )
          ];
          img_old = λ h q l r o. ad.img_rest h q l r (omega arith) ∙ n.img_old h q l r o;
          img_new = λ h i q r l. elim (dec_lt i (count b k)) [
            | yes o ↦ ad.img_rest h (size + i) q r (omega arith) ∙ n.img_new h i q r o ∙ ap (Rows code w 128 h) (sym (nth_kept b k i o))
            | no o ↦ (
                let eq : i ≡ count b k = last i l o in
                let there : size + i ≡ j = omega arith in
                ap (Rows code w'' 384 h) there ∙ ad.img_here h q r ∙ at (n.dif h (omega arith)) k ∙ ap (Rows code w 128 h) (sym (at_last i eq))
                )
          ];
          img_past = λ h q l r o. ad.img_rest h q l r (omega arith) ∙ n.img_past h q l r (omega arith);
          img_other = λ h l. ad.img_other h l ∙ n.img_other h l;
          tab = λ i l. ad.tab i l ∙ n.tab i l;
          off = λ i l. ad.off i l ∙ n.off i l;
          dif = λ i l. ad.dif i l ∙ n.dif i l;
        }

-- from what is said of each variant
pub each_way : {A : Type 0} (o : Option A) (N M : Type 0) (P Q : A → Type 0) → (N → M) → ((x : A) → P x → Q x) → MatchOption o N P → MatchOption o M Q
each_way None N M P Q f g c = f c
each_way (Some x) N M P Q f g c = g x c
