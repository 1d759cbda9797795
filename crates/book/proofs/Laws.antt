-- The rule book has one reading: the presses decide every page. Assumes nothing.
use Rattle.std.proofs.Common.{◌≡◌, ℕ, ◌^◌, ◌<◌, Bool, true, false, cond, ◌||◌, T, eqb, ltb, leb, ◌↔◌, List, [], ◌∷◌, length, sym, refl, ap, ◌∙◌, ap₂, arith}
use mathlib.Core.HLevel.{dec→stable}
use native.Mathlib.Decide.{ℕ_discrete}
use Rattle.std.proofs.lemmas.Bool.{or_parts, leb-false, ltb-false}
use Rattle.patch.specs.Records.{records, cells_of}
use Rattle.patch.specs.Faults.{Verdict, passed, refused}
use Rattle.book.specs.Rulebook.{Press, load, lay, weigh, tie, same, cells, sound, write, Rule, Pages, Entry, no_entry, entry, entered, Rack, Agree, PatchOf, early, asked, Cause, at_once, too_short, too_many, Refused, Enters, Run, none, more, Answer, agree, count, wrote, Says, Answers, OneSettled}
use Rattle.patch.specs.Settings.{made}
use Rattle.patch.proofs.Bits.{made_fits}

not_passed : {n k : ℕ} → refused n k ≡ passed → ⊥
not_passed e = let z : ◌≡◌ {A = ℕ} 0 1 = cc in omega arith

through : (b : Bool) (n k : ℕ) (y : Verdict) → cond b (refused n k) y ≡ passed → (b ≡ false) × (y ≡ passed)
through true n k y e = absurd (not_passed e)
through false n k y e = (refl, e)

module _ (R : Rack) where
  open R use {slots, order, plus, times}

  -- pages that agree
  Alike : Pages → Pages → Type 0
  Alike P Q = (slot : ℕ) → Agree R (P slot) (Q slot)

  SameEntry : Entry → Entry → Type 0
  SameEntry no_entry no_entry = Unit
  SameEntry no_entry (entry t g) = ⊥
  SameEntry (entry s f) no_entry = ⊥
  SameEntry (entry s f) (entry t g) = (s ≡ t) × Agree R f g

  tie_fits : (to a i v work : ℕ) → early R (tie to a i v work) ≡ passed → (i < length order) × (v < 2)
  tie_fits to a i v work e =
      let p = through (leb slots to || leb slots a) 4 0 _ e in
      let r = through (leb (length order) i || ltb 1 v) 5 0 _ p.1 in
      let o = or_parts (leb (length order) i) (ltb 1 v) r.0 in (leb-false _ _ o.0, omega (arith, ltb-false _ _ o.1))

  module _ (P Q : Pages) (alike : Alike P Q) where
    asked_alike : (p : Press) → early R p ≡ passed → SameEntry (asked R P p) (asked R Q p)
    unfolding Alike SameEntry
    asked_alike (load s patch work) e = (refl, λ x h. refl)
    asked_alike (lay to a b work) e = (refl, λ x h. ap₂ plus (alike a x h) (alike b x h))
    asked_alike (weigh to a c) e = (refl, λ x h. ap (times c) (alike a x h))
    asked_alike (tie to a i v work) e =
        let f = tie_fits to a i v work e in (refl, λ x h. alike a (made x i v) (made_fits x i v f.1 (length order) f.0 h))
    asked_alike (same a b) e = tt
    asked_alike (cells a) e = tt
    asked_alike (sound a x) e = tt
    asked_alike (write a n) e = tt

    many_alike : (p : Press) (eP eQ : Entry) (slot : ℕ) (f : Rule) → early R p ≡ passed → asked R Q p ≡ eQ → SameEntry eP eQ → eP ≡ entry slot f
        → ((bytes : List ℕ) → PatchOf R f bytes → 31 < cells_of (records bytes)) → Cause R Q p 19 0
    unfolding SameEntry
    many_alike p no_entry eQ slot f e q s is many = let z : ◌≡◌ {A = ℕ} 0 1 = cc in absurd (omega arith)
    many_alike p (entry t g) no_entry slot f e q s is many = absurd s
    many_alike p (entry t g) (entry u h) slot f e q s is many =
        let same : g ≡ f = cc in
        too_many u h e q (λ bytes b. many bytes (b.0, λ x l. b.1 x l ∙ sym (s.1 x l) ∙ ap (λ (r : Rule). r x) same))

    cause_alike : (p : Press) (number place : ℕ) → Cause R P p number place → Cause R Q p number place
    unfolding Alike
    cause_alike p number place (at_once e) = at_once e
    cause_alike p number place (too_short {a} e s l) = too_short e (s.0, λ x h. s.1 x h ∙ alike a x h) l
    cause_alike p number place (too_many slot f e is many) = many_alike p (asked R P p) (asked R Q p) slot f e refl (asked_alike p e) is many

    pick_alike : (b : Bool) (f g c d : Rule) (x : ℕ) → f x ≡ g x → c x ≡ d x → cond b f c x ≡ cond b g d x
    pick_alike true f g c d x e k = e
    pick_alike false f g c d x e k = k

    entered_alike : (eP eQ : Entry) → SameEntry eP eQ → (slot x : ℕ) → x < 2 ^ length order → entered P eP slot x ≡ entered Q eQ slot x
    unfolding SameEntry Alike
    entered_alike no_entry no_entry s slot x h = alike slot x h
    entered_alike no_entry (entry t g) s slot x h = absurd s
    entered_alike (entry t f) no_entry s slot x h = absurd s
    entered_alike (entry t f) (entry u g) s slot x h =
        rw s.0 (pick_alike (eqb slot u) f g (P slot) (Q slot) x (s.1 x h) (alike slot x h))

  alike_sym : (P Q : Pages) → Alike P Q → Alike Q P
  unfolding Alike
  alike_sym P Q a slot x h = sym (a slot x h)

  unrefused : (P : Pages) (p : Press) → ¬ Refused R P p → early R p ≡ passed
  unrefused P p n = go (early R p) refl
    where
      go : (v : Verdict) → early R p ≡ v → early R p ≡ passed
      go passed e = e
      go (refused a b) e = absurd (n (a, b, at_once e))

  enters_alike : (P Q P' Q' : Pages) (p : Press) → Alike P Q → Enters R P p P' → Enters R Q p Q' → Alike P' Q'
  unfolding Alike
  enters_alike P Q P' Q' p alike a b slot x h =
      dec→stable (ℕ_discrete (P' slot x) (Q' slot x)) (
      λ no.
      let free : ¬ Refused R P p =
      λ r. no (a.refused_stays r slot x h ∙ alike slot x h ∙ sym (b.refused_stays (r.0, r.1, cause_alike P Q alike p r.0 r.1 r.2) slot x h)) in
      let free' : ¬ Refused R Q p = λ r. free (r.0, r.1, cause_alike Q P (alike_sym P Q alike) p r.0 r.1 r.2) in
      no (
      a.accepted_enters free slot x h
      ∙ entered_alike P Q alike (asked R P p) (asked R Q p) (asked_alike P Q alike p (unrefused P p free)) slot x h
      ∙ sym (b.accepted_enters free' slot x h)))

  run_alike : (ps : List Press) (P Q P' Q' : Pages) → Alike P Q → Run R P ps P' → Run R Q ps Q' → Alike P' Q'
  run_alike [] P Q P' Q' alike none none = alike
  run_alike (p ∷ ps) P Q P' Q' alike (more {between = B} a r) (more {between = C} b s) = run_alike ps B C P' Q' (enters_alike P Q B C p alike a b) r s

  pub one_reading : (P P' Q' : Pages) (ps : List Press) → Run R P ps P' → Run R P ps Q' → (slot : ℕ) → Agree R (P' slot) (Q' slot)
  unfolding Alike
  one_reading P P' Q' ps a b = run_alike ps P P P' Q' (λ slot x h. refl) a b

  pub quiet : (P P' : Pages) (p : Press) → Enters R P p P' → asked R P p ≡ no_entry → (slot : ℕ) → Agree R (P' slot) (P slot)
  quiet P P' p a e slot x h =
      dec→stable (ℕ_discrete (P' slot x) (P slot x)) (
      λ no.
      let free : ¬ Refused R P p = λ r. no (a.refused_stays r slot x h) in
      no (a.accepted_enters free slot x h ∙ ap (λ (n : Entry). entered P n slot x) e))

  -- a press has at most one cause
  apart : (v w : Verdict) (number place : ℕ) → v ≡ passed → v ≡ refused number place → ⊥
  apart v w number place e f = let z : ◌≡◌ {A = ℕ} 0 1 = cc in omega arith

  no_page : (a room slot : ℕ) (P : Pages) (f : Rule) → asked R P (write a room) ≡ entry slot f → ⊥
  no_page a room slot P f e = let z : ◌≡◌ {A = ℕ} 0 1 = cc in omega arith

  pub one_cause : (P : Pages) (p : Press) (number place number' place' : ℕ) → Cause R P p number place → Cause R P p number' place'
      → (number ≡ number') × (place ≡ place')
  one_cause P p number place number' place' (at_once e) d = ahead p number' place' e d
    where
      ahead : (p : Press) (n k : ℕ) → early R p ≡ refused number place → Cause R P p n k → (number ≡ n) × (place ≡ k)
      ahead p n k e (at_once f) = (cc, cc)
      ahead p n k e (too_short f s l) = absurd (apart _ passed number place f e)
      ahead p n k e (too_many slot f g is many) = absurd (apart _ passed number place g e)
  one_cause P p number place number' place' (too_short {a} {room} e s l) d = short number' place' d
    where
      short : (n k : ℕ) → Cause R P (write a room) n k → (9 ≡ n) × (0 ≡ k)
      short n k (at_once f) = absurd (apart _ passed n k e f)
      short n k (too_short f t m) = (refl, refl)
      short n k (too_many slot f g is many) = absurd (no_page a room slot P f is)
  one_cause P p number place number' place' (too_many slot f e is many) d = last p number' place' e is d
    where
      last : (p : Press) (n k : ℕ) → early R p ≡ passed → asked R P p ≡ entry slot f → Cause R P p n k → (19 ≡ n) × (0 ≡ k)
      last p n k e is (at_once g) = absurd (apart _ passed n k e g)
      last p n k e is (too_short {a} {room} g t m) = absurd (no_page a room slot P f is)
      last p n k e is (too_many u g h ic m) = (refl, refl)

  same_yes : (a b : Bool) (X : Type 0) → T a ↔ X → T b ↔ X → a ≡ b
  same_yes true true X e f = refl
  same_yes true false X e f = absurd (f.1 (e.0 tt))
  same_yes false true X e f = absurd (e.1 (f.0 tt))
  same_yes false false X e f = refl

  pub one_answer : OneSettled R → (P : Pages) (p : Press) (ans other : Answer) → ¬ Refused R P p → Answers R P p ans → Answers R P p other → ans ≡ other
  one_answer one P p ans other free a b = go p (a.accepted_says free) (b.accepted_says free)
    where
      go : (p : Press) → Says R P p ans → Says R P p other → ans ≡ other
      go (load s patch work) e f = e ∙ sym f
      go (lay to c d work) e f = e ∙ sym f
      go (weigh to c d) e f = e ∙ sym f
      go (tie to c i v work) e f = e ∙ sym f
      go (same c d) e f = e.1 ∙ ap agree (same_yes e.0 f.0 (Agree R (P c) (P d)) e.2 f.2) ∙ sym f.1
      go (cells c) e f = e.2 ∙ ap (λ (bs : List ℕ). count (cells_of (records bs))) (one (P c) e.0 f.0 e.1 f.1) ∙ sym f.2
      go (sound c x) e f = e ∙ sym f
      go (write c n) e f = e.2 ∙ ap wrote (one (P c) e.0 f.0 e.1 f.1) ∙ sym f.2
