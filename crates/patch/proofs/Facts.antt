-- What holds of each record of a patch, over all its cells. Assumes nothing.
use Rattle.std.proofs.Common.{◌≡◌, ℕ, zero, suc, ◌-◌, ◌<◌, ◌≤◌, ◌≢◌, List, [], ◌∷◌, ◌++◌, length, get_or, sym, refl, ◌∙◌, subst, inl, inr, arith}
use lib.ListN.{get_or-append, get_or-eq_default}
use Rattle.std.proofs.lemmas.Bool.{cases_lt}
use Rattle.patch.specs.Records.{Record, filler, cell, off, on, outlet, unmarked, unclean, records, declare, declared, input, nth, cells_of, reads, Readable}
use Rattle.patch.specs.Faults.{position, Order, Later, Arc, Fine, AllFine, Patch}
use Rattle.patch.proofs.Checked.{declare_more, declared_more}

input_declare : (cells : List ℕ) (r : Record) (f : ℕ) → 0 < f → f ≤ length cells → input (declare cells r) f ≡ input cells f
input_declare cells filler f z h = refl
input_declare cells (cell i) f z h = get_or-append cells (i ∷ []) 0 (f - 1) (omega arith)
input_declare cells (off g t c) f z h = refl
input_declare cells (on g t c) f z h = refl
input_declare cells (outlet t c) f z h = refl
input_declare cells unmarked f z h = refl
input_declare cells unclean f z h = refl

input_declared : (rs : List Record) (cells : List ℕ) (f : ℕ) → 0 < f → f ≤ length cells → input (declared cells rs) f ≡ input cells f
input_declared [] cells f z h = refl
input_declared (r ∷ rs) cells f z h =
    input_declared rs (declare cells r) f z (omega (arith, declare_more cells r)) ∙ input_declare cells r f z h

module _ (order : List ℕ) (q : ℕ) where
  later_on : (rs : List Record) (cells : List ℕ) (f t : ℕ) → 0 < f → f ≤ length cells → t ≤ length cells → Later order cells f t → Later order (declared cells rs) f t
  later_on rs cells f t z h k (inl e) = inl e
  later_on rs cells f zero z h k (inr l) = inl refl
  later_on rs cells f (suc t) z h k (inr l) =
      inr (rw (input_declared rs cells f z h, input_declared rs cells (suc t) (omega arith) k) l)

  arc_on : (rs : List Record) (cells : List ℕ) (f t c : ℕ) → Arc order q cells f t c → Arc order q (declared cells rs) f t c
  arc_on rs cells f t c a = record {
    from_cell = a.from_cell;
    from_known = omega (arith, a.from_known, declared_more rs cells);
    to_known = omega (arith, a.to_known, declared_more rs cells);
    leads_later = later_on rs cells f t a.from_cell a.from_known a.to_known a.leads_later;
    code = a.code;
  }

  fine_on : (rs : List Record) (cells : List ℕ) (r : Record) → Fine order q cells r → Fine order q (declared (declare cells r) rs) r
  fine_on rs cells filler a = tt
  fine_on rs cells (cell i) a = a
  fine_on rs cells (off f t c) a = arc_on rs cells f t c a
  fine_on rs cells (on f t c) a = arc_on rs cells f t c a
  fine_on rs cells (outlet t c) a = (omega (arith, a.0, declared_more rs cells), a.1)
  fine_on rs cells unmarked a = a
  fine_on rs cells unclean a = a

  fine_nth : (rs : List Record) (cells : List ℕ) (k : ℕ) → AllFine order q cells rs → Fine order q (declared cells rs) (nth rs k)
  fine_nth [] cells k a = tt
  fine_nth (r ∷ rs) cells zero a = fine_on rs cells r a.0
  fine_nth (r ∷ rs) cells (suc k) a = fine_nth rs (declare cells r) k a.1

  Below : List ℕ → Type 0
  Below cells = (i : ℕ) → i < length cells → get_or cells i 0 < length order

  below_more : (cells : List ℕ) (j : ℕ) → Below cells → j < length order → Below (cells ++ j ∷ [])
  unfolding Below
  below_more [] j b h zero l = h
  below_more [] j b h (suc i) l = absurd (omega arith)
  below_more (c ∷ cells) j b h zero l = b 0 (omega arith)
  below_more (c ∷ cells) j b h (suc i) l = below_more cells j (λ m k. b (suc m) (omega arith)) h i (omega arith)

  below_declare : (cells : List ℕ) (r : Record) → Fine order q cells r → Below cells → Below (declare cells r)
  unfolding Below
  below_declare cells filler a b = b
  below_declare cells (cell j) a b = below_more cells j b a
  below_declare cells (off f t c) a b = b
  below_declare cells (on f t c) a b = b
  below_declare cells (outlet t c) a b = b
  below_declare cells unmarked a b = b
  below_declare cells unclean a b = b

  below_declared : (rs : List Record) (cells : List ℕ) → AllFine order q cells rs → Below cells → Below (declared cells rs)
  unfolding Below
  below_declared [] cells a b = b
  below_declared (r ∷ rs) cells a b = below_declared rs (declare cells r) a.1 (below_declare cells r a.0 b)

-- What all that follows rests on.
pub record Facts (order : List ℕ) (q : ℕ) (rs : List Record) : Type 0 where
  pub fine : (k : ℕ) → Fine order q (declared [] rs) (nth rs k)
  pub input_is : (f : ℕ) → 0 < f → f ≤ cells_of rs → reads rs f < length order
  pub place_is : (f : ℕ) → 0 < f → f ≤ cells_of rs → position order (reads rs f) < length order

pub facts_of : (order : List ℕ) (q : ℕ) (rs : List Record) → Order order → AllFine order q [] rs → Facts order q rs
unfolding Below
facts_of order q rs o a =
    let below : (f : ℕ) → 0 < f → f ≤ cells_of rs → reads rs f < length order =
    λ f z h. below_declared order q rs [] a (λ i l. absurd (omega arith)) (f - 1) (omega arith) in
    record { fine = λ k. fine_nth order q rs [] k a; input_is = below; place_is = λ f z h. o.placed (reads rs f) (below f z h) }

pub facts : (order : List ℕ) (q : ℕ) (bytes : List ℕ) → Order order → Patch order q bytes → Facts order q (records bytes)
facts order q bytes o p = facts_of order q (records bytes) o p.fine

-- and each is one
pub readable : (order : List ℕ) (q : ℕ) (bytes : List ℕ) → Order order → Patch order q bytes → Readable (records bytes)
readable order q bytes o p k =
    let P : Record → Type 0 = λ r. Fine order q (declared [] (records bytes)) r in
    let f = (facts order q bytes o p).fine k in (λ e. subst P e f, λ e. subst P e f)

-- a record that is no filler has its place
pub inside : (rs : List Record) (k : ℕ) (r : Record) → nth rs k ≡ r → r ≢ filler → k < length rs
inside rs k r e n = elim (cases_lt k (length rs)) [ inl h ↦ h | inr h ↦ absurd (n (sym e ∙ get_or-eq_default rs filler h)) ]
