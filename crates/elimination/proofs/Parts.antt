-- Tables that are parts of one working memory. A call reads `&work[a..a + n]` as `take n (drop a work)`, and after a call on `&mut work[a..a + n]`, which leaves ys in it,
-- the memory is `put_mid a n work ys`; `&work[..n]` is `take n work`, and `ys ++ drop n work` is `put_mid 0 n work ys`.
use Rattle.std.proofs.Common.{◌≡◌, ℕ, ◌+◌, ◌-◌, ◌<◌, ◌≤◌, List, ◌++◌, length, take, drop, sym, ap, ◌∙◌, arith, length-drop}
use Rattle.std.proofs.lemmas.List.{length-take}
use borrow.Rule.Slice.PartMut.{put_mid}
use Rattle.scale.specs.Model.{ScaleModel}
use Rattle.strip.specs.Row.{Row}
use Rattle.elimination.specs.Arithmetic.{Arithmetic}
use Rattle.elimination.specs.Lift.{Element, scalars, elements, Grid, Gathered, Inside, Absorbed}
use Rattle.elimination.specs.Rows.{rows_in, Rows, Outside, Balance, Echelon, Grows, Reduced, SameSpan, SpansAs, Tidy}
use Rattle.elimination.proofs.Agreeing.{Agree, agree_back, echelon_agrees, inside_agrees, tidy_agrees, reduced_agrees, balance_agrees, spans_as_agrees, same_span_agrees, grows_agrees, gathered_agrees, absorbed_agrees}
use Rattle.elimination.proofs.Tables.{row_left, row_right, row_take, row_drop}

-- the table is the n strips of working memory from base on
pub record Held {S : Type 0} (code : S → Row) (table work : List S) (base n : ℕ) : Type 0 where
  pub long : length table ≡ n
  pub rows : Agree n (rows_in code table) (Rows code work base)

-- work' is work with the table ys in the place of the n strips from base on
pub record Placed {S : Type 0} (code : S → Row) (work : List S) (base n : ℕ) (ys work' : List S) : Type 0 where
  pub held : Held code ys work' base n
  pub outside : Outside code work base n work'

module _ {S : Type 0} (code : S → Row) where
  -- k is n as the code counts it: `256 + n - 256`
  pub part_held : (work : List S) (a k n : ℕ) → k ≡ n → a + n ≤ length work → Held code (take k (drop a work)) work a n
  unfolding Rows
  part_held work a k n e room = record {
    long = omega (arith, length-take k (drop a work), length-drop a work);
    rows = λ h l. row_take code (drop a work) k h (omega arith) ∙ row_drop code work a h;
  }

  -- the first n strips
  pub front_held : (work : List S) (n : ℕ) → n ≤ length work → Held code (take n work) work 0 n
  unfolding Rows
  front_held work n room = record {
    long = omega (arith, length-take n work);
    rows = λ h l. let e : 0 + h ≡ h = omega arith in rw e (row_take code work n h l);
  }

  -- the strips of a piece are the whole's
  pub take_rows : (work : List S) (n b k : ℕ) → b + k < n → Rows code (take n work) b k ≡ Rows code work b k
  unfolding Rows
  take_rows work n b k l = row_take code work n (b + k) l

  -- work, with ys in the part's place: as many strips as the part had
  module _ (work : List S) (a k n : ℕ) (e : k ≡ n) (room : a + n ≤ length work) (ys : List S) (same : length ys ≡ length (take k (drop a work))) where
    long : length ys ≡ n
    long = omega (arith, length-take k (drop a work), length-drop a work)

    front_long : length (take a work) ≡ a
    front_long = omega (arith, length-take a work)

    -- what lies before the part, in it, and after it
    placed_before : (i : ℕ) → i < a → rows_in code (put_mid a k work ys) i ≡ rows_in code work i
    placed_before i l = row_left code (take a work) (ys ++ drop k (drop a work)) i (omega (arith, front_long)) ∙ row_take code work a i l

    placed_in : (i : ℕ) → a ≤ i → i < a + n → rows_in code (put_mid a k work ys) i ≡ rows_in code ys (i - a)
    placed_in i l b = row_right code (take a work) (ys ++ drop k (drop a work)) a i front_long l ∙ row_left code ys (drop k (drop a work)) (i - a) (omega (arith, long))

    placed_after : (i : ℕ) → a + n ≤ i → rows_in code (put_mid a k work ys) i ≡ rows_in code work i
    placed_after i l =
        let there : a + (k + (i - a - n)) ≡ i = omega arith in
        row_right code (take a work) (ys ++ drop k (drop a work)) a i front_long (omega arith) ∙ row_right code ys (drop k (drop a work)) n (i - a) long (omega arith)
        ∙ row_drop code (drop a work) k (i - a - n) ∙ row_drop code work a (k + (i - a - n)) ∙ ap (rows_in code work) there

    pub placed : Placed code work a n ys (put_mid a k work ys)
    unfolding Rows
    placed = record {
      held = record {
        long = long;
        rows = λ h l. let back : a + h - a ≡ h = omega arith in sym (placed_in (a + h) (omega arith) (omega arith) ∙ ap (rows_in code ys) back);
      };
      outside = record { before = λ b i l. placed_before (b + i) l; after = λ b i l. placed_after (b + i) l };
    }

  -- where the memory is split, `let (before, after) = work.split_at_mut(a)`: a part of before is one of work, the first strips of after are the table,
  -- and ys takes their place
  module _ (work before after : List S) (a : ℕ) (front : before ≡ take a work) (rest : after ≡ drop a work) where
    pub split_part : (b k n : ℕ) → k ≡ n → b + n ≤ a → a ≤ length work → Held code (take k (drop b before)) work b n
    split_part b k n e l room = let h = part_held (take a work) b k n e (omega (arith, length-take a work)) in rw front (record {
      long = h.long;
      rows = λ i b. h.rows i b ∙ take_rows work a _ i (omega arith);
    })

    module _ (n : ℕ) (room : a + n ≤ length work) where
      pub split_held : Held code (take n after) work a n
      split_held = rw rest (part_held work a n n (omega arith) room)

      pub split_placed : (ys : List S) → length ys ≡ length (take n after) → Placed code work a n ys (before ++ (ys ++ drop n after))
      split_placed ys same = rw (front, rest) (placed work a n n (omega arith) room ys (rw rest at same))

-- what is said of a table, said of working memory, and back
module _ {S : Type 0} {code : S → Row} {table work : List S} {base n : ℕ} (held : Held code table work base n) where
  back : Agree n (Rows code work base) (rows_in code table)
  back = agree_back held.rows

  pub echelon_in : Echelon n (Rows code work base) → Echelon (length table) (rows_in code table)
  echelon_in s = rw held.long (echelon_agrees n _ _ back s)

  pub echelon_out : Echelon (length table) (rows_in code table) → Echelon n (Rows code work base)
  echelon_out s = echelon_agrees n _ _ held.rows (rw held.long at s)

  pub inside_in : Inside n (Rows code work base) → Inside (length table) (rows_in code table)
  inside_in s = rw held.long (inside_agrees n _ _ back n s)

  pub inside_out : Inside (length table) (rows_in code table) → Inside n (Rows code work base)
  inside_out s = inside_agrees n _ _ held.rows n (rw held.long at s)

  pub tidy_out : Tidy (length table) (length table) (rows_in code table) → Tidy n n (Rows code work base)
  tidy_out s = tidy_agrees n _ _ held.rows n (omega arith) (rw held.long at s)

  pub reduced_out : (f : Row) → Reduced (length table) (rows_in code table) f → Reduced n (Rows code work base) f
  reduced_out f s = reduced_agrees n _ _ held.rows f (rw held.long at s)

  pub balance_out : (F : Arithmetic) (a : ℕ → ℕ) (f g : Row) → Balance F (length table) a (rows_in code table) f g → Balance F n a (Rows code work base) f g
  balance_out F a f g s = balance_agrees n _ _ held.rows F a f g (rw held.long at s)

  pub gathered_out : (M : ScaleModel) (r : Row) (from : ℕ) (f g : Row) → Gathered M r (elements M (rows_in code table)) from (length table) f g → Gathered M r (Grid M code work base) from n f g
  gathered_out M r from f g s = gathered_agrees M r n _ _ held.rows from f g (rw held.long at s)

  -- with the table as a call left it
  module _ {table' work' : List S} (held' : Held code table' work' base n) where
    pub same_span_out : (F : Arithmetic) → SameSpan F (length table) (rows_in code table) (rows_in code table') → SameSpan F n (Rows code work base) (Rows code work' base)
    same_span_out F s = same_span_agrees F n _ _ held.rows _ _ held'.rows (rw held.long at s)

    pub grows_out : (F : Arithmetic) (v : Row) → Grows F (length table) (rows_in code table) v (rows_in code table') → Grows F n (Rows code work base) v (Rows code work' base)
    grows_out F v s = grows_agrees F n _ _ held.rows _ _ held'.rows v (rw held.long at s)

    pub absorbed_out : (M : ScaleModel) (v coef : ℕ → Element M) → Absorbed (scalars M) (length table) (elements M (rows_in code table)) v coef (elements M (rows_in code table'))
        → Absorbed (scalars M) n (Grid M code work base) v coef (Grid M code work' base)
    absorbed_out M v coef s = absorbed_agrees M n _ _ held.rows _ _ held'.rows v coef (rw held.long at s)

pub spans_as_out : {S : Type 0} {code : S → Row} {source from table work : List S} {a m base n : ℕ} → Held code source from a m → Held code table work base n → (F : Arithmetic)
    → SpansAs F (length source) (rows_in code source) (length table) (rows_in code table) → SpansAs F m (Rows code from a) n (Rows code work base)
spans_as_out s t F x = spans_as_agrees F _ _ _ s.rows _ _ _ t.rows (rw t.long at (rw s.long at x))
