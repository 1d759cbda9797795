-- A listing tells the records apart. Assumes nothing.
use Rattle.std.proofs.Common.{◌≡◌, ℕ, ◌+◌, ◌%◌, ◌^◌, ◌<◌, ◌≤◌, ◌≢◌, ◌↔◌, List, [], ◌∷◌, ◌++◌, length, get_or, drop, decimal, sym, refl, ap, ◌∙◌, arith}
use Rattle.std.specs.Str.Parse.{IsNumeral, digits_value}
use Rattle.std.proofs.lemmas.Fmt.{decimal_is_IsNumeral, decimal_digit, decimal_by_steps, first_decimal, decimal_injective}
use Rattle.std.proofs.lemmas.List.{append_assoc, length_push}
use Rattle.patch.specs.Admitted.{Admitted}
use Rattle.patch.specs.Faults.{AllFine, Patch}
use Rattle.patch.specs.Listing.{newline, arc, line, lines, or_silent, listing_text, solid}
use Rattle.patch.specs.Output.{field}
use Rattle.patch.specs.Records.{Record, filler, cell, off, on, outlet, unmarked, unclean, records, declare}
use Rattle.patch.proofs.Admitting.{admitted_patch, admitted_short}
use Rattle.patch.proofs.Checked.{records_length}
use Rattle.patch.proofs.Each.{Each}
use Rattle.patch.proofs.Held.{Small, records_small}

pub numbers_read_back : (n : ℕ) → n < 2 ^ 64 → IsNumeral 10 (decimal n) × (digits_value 10 (decimal n) ≡ n) × (0 < n → 48 < get_or (decimal n) 0 0) × (n ≡ 0 → decimal n ≡ 48 ∷ [])
numbers_read_back n h =
    let r = decimal_is_IsNumeral n h in (r.0, r.1, λ p. first_decimal n p h, λ z. ap decimal z ∙ decimal_digit 0 (omega arith))

-- digits, and where they end
Figures : List ℕ → Type 0
Figures [] = Unit
Figures (d ∷ ds) = (48 ≤ d) × Figures ds

figures_push : (ds : List ℕ) (d : ℕ) → Figures ds → 48 ≤ d → Figures (ds ++ (d ∷ []))
unfolding Figures
figures_push [] d f h = (h, tt)
figures_push (c ∷ ds) d f h = (f.0, figures_push ds d f.1 h)

figures : (n : ℕ) → n < 2 ^ 64 → Figures (decimal n)
unfolding Figures
figures = decimal_by_steps (λ n ds. Figures ds) (λ n h. (omega arith, tt)) (λ n ds h f. figures_push ds (48 + n % 10) f (omega arith))

split : (ds es : List ℕ) (a b : ℕ) (x y : List ℕ) → Figures ds → Figures es → a < 48 → b < 48 → ds ++ (a ∷ x) ≡ es ++ (b ∷ y) → (ds ≡ es) × ((a ∷ x) ≡ (b ∷ y))
unfolding Figures
split [] [] a b x y f g h k e = (refl, e)
split [] (d ∷ es) a b x y f g h k e = let z : a ≡ d = cc in absurd (omega (arith, g.0))
split (d ∷ ds) [] a b x y f g h k e = let z : d ≡ b = cc in absurd (omega (arith, f.0))
split (c ∷ ds) (d ∷ es) a b x y f g h k e =
    let s : c ≡ d = cc in
    let t : ds ++ (a ∷ x) ≡ es ++ (b ∷ y) = cc in
    let r = split ds es a b x y f.1 g.1 h k t in (ap (λ l. c ∷ l) r.0 ∙ ap (λ u. u ∷ es) s, r.1)

field_tells : (m n : ℕ) (a b : ℕ) (x y : List ℕ) → m < 2 ^ 64 → n < 2 ^ 64 → a < 48 → b < 48 → field m ++ (a ∷ x) ≡ field n ++ (b ∷ y) → (m ≡ n) × ((a ∷ x) ≡ (b ∷ y))
field_tells m n a b x y hm hn h k e =
    let t : decimal m ++ (a ∷ x) ≡ decimal n ++ (b ∷ y) = ap (drop 1) e in
    let r = split (decimal m) (decimal n) a b x y (figures m hm) (figures n hn) h k t in (decimal_injective m n hm hn r.0, r.1)

two_in : (t c : ℕ) (x : List ℕ) → (field t ++ (field c ++ newline)) ++ x ≡ field t ++ (field c ++ (10 ∷ x))
two_in t c x = append_assoc (field t) (field c ++ newline) x ∙ ap (λ l. field t ++ l) (append_assoc (field c) newline x)

two_tell : (t c u d : ℕ) (x y : List ℕ) → t < 256 → c < 256 → u < 256 → d < 256 → (field t ++ (field c ++ newline)) ++ x ≡ (field u ++ (field d ++ newline)) ++ y
    → (t ≡ u) × (c ≡ d) × (x ≡ y)
two_tell t c u d x y ht hc hu hd e =
    let f = field_tells t u 32 32 (decimal c ++ (10 ∷ x)) (decimal d ++ (10 ∷ y)) (omega arith) (omega arith) (omega arith) (omega arith) (sym (two_in t c x) ∙ e ∙ two_in u d y) in
    let g = field_tells c d 10 10 x y (omega arith) (omega arith) (omega arith) (omega arith) f.1 in (f.0, g.0, ap (drop 1) g.1)

arc_tells : (f t c g u d : ℕ) (x y : List ℕ) → (f < 256) × (t < 256) × (c < 256) → (g < 256) × (u < 256) × (d < 256) → arc f t c ++ x ≡ arc g u d ++ y
    → (f ≡ g) × (t ≡ u) × (c ≡ d) × (x ≡ y)
arc_tells f t c g u d x y h k e =
    let a = field_tells f g 32 32 (decimal t ++ (field c ++ newline) ++ x) (decimal u ++ (field d ++ newline) ++ y) (omega (arith, h.0)) (omega (arith, k.0)) (omega arith) (omega arith) (
    sym (append_assoc (field f) (field t ++ (field c ++ newline)) x) ∙ e ∙ append_assoc (field g) (field u ++ (field d ++ newline)) y) in
    let b = two_tell t c u d x y h.1 h.2 k.1 k.2 a.1 in (a.0, b.0, b.1, b.2)

-- the records that have a line
data Shown : Record → Type 0 where
  shown_cell : (i : ℕ) → i < 256 → Shown (cell i)
  shown_off : (f t c : ℕ) → (f < 256) × (t < 256) × (c < 256) → Shown (off f t c)
  shown_on : (f t c : ℕ) → (f < 256) × (t < 256) × (c < 256) → Shown (on f t c)
  shown_outlet : (t c : ℕ) → (t < 256) × (c < 256) → Shown (outlet t c)

each_shown : (order : List ℕ) (q : ℕ) (rs : List Record) (cells : List ℕ) → AllFine order q cells rs → Each Small rs → Each Shown (solid rs)
each_shown order q [] cells a s = tt
each_shown order q (filler ∷ rs) cells a s = each_shown order q rs cells a.1 s.1
each_shown order q (cell i ∷ rs) cells a s = (shown_cell i s.0, each_shown order q rs (declare cells (cell i)) a.1 s.1)
each_shown order q (off f t c ∷ rs) cells a s = (shown_off f t c s.0, each_shown order q rs cells a.1 s.1)
each_shown order q (on f t c ∷ rs) cells a s = (shown_on f t c s.0, each_shown order q rs cells a.1 s.1)
each_shown order q (outlet t c ∷ rs) cells a s = (shown_outlet t c s.0, each_shown order q rs cells a.1 s.1)
each_shown order q (unmarked ∷ rs) cells a s = absurd a.0
each_shown order q (unclean ∷ rs) cells a s = absurd a.0

cell_tells : (m n i j : ℕ) (x y : List ℕ) → m < 2 ^ 64 → n < 2 ^ 64 → i < 256 → j < 256 → line m (cell i) ++ x ≡ line n (cell j) ++ y → (i ≡ j) × (x ≡ y)
cell_tells m n i j x y hm hn hi hj e =
    let inner : (k l : ℕ) (z : List ℕ) → List ℕ = λ k l z. 32 ∷ 105 ∷ 110 ∷ 112 ∷ 117 ∷ 116 ∷ (field l ++ (10 ∷ z)) in
    let open_up : (k l : ℕ) (z : List ℕ) → drop 4 (line k (cell l) ++ z) ≡ field k ++ inner k l z =
    λ k l z. append_assoc (field k) _ z ∙ ap (λ w. field k ++ (32 ∷ 105 ∷ 110 ∷ 112 ∷ 117 ∷ 116 ∷ w)) (append_assoc (field l) newline z) in
    let a = field_tells m n 32 32 _ _ hm hn (omega arith) (omega arith) (sym (open_up m i x) ∙ ap (drop 4) e ∙ open_up n j y) in
    let b = field_tells i j 10 10 x y (omega arith) (omega arith) (omega arith) (omega arith) (ap (drop 6) a.1) in (b.0, ap (drop 1) b.1)

-- the second letter of a line tells its kind
other : (a b : ℕ) (x y : List ℕ) → x ≡ y → get_or x 1 0 ≡ a → get_or y 1 0 ≡ b → a ≢ b → ⊥
other a b x y e p q n = n (sym p ∙ ap (λ l. get_or l 1 0) e ∙ q)

line_tells : {r s : Record} (m n : ℕ) (x y : List ℕ) → m < 2 ^ 64 → n < 2 ^ 64 → Shown r → Shown s → line m r ++ x ≡ line n s ++ y → (r ≡ s) × (x ≡ y)
line_tells m n x y hm hn (shown_cell i h) (shown_cell j k) e = let t = cell_tells m n i j x y hm hn h k e in (ap cell t.0, t.1)
line_tells m n x y hm hn (shown_cell i h) (shown_off g u d k) e = absurd (other 101 102 _ _ e refl refl (λ z. omega arith))
line_tells m n x y hm hn (shown_cell i h) (shown_on g u d k) e = absurd (other 101 110 _ _ e refl refl (λ z. omega arith))
line_tells m n x y hm hn (shown_cell i h) (shown_outlet u d k) e = absurd (other 101 117 _ _ e refl refl (λ z. omega arith))
line_tells m n x y hm hn (shown_off f t c h) (shown_cell j k) e = absurd (other 102 101 _ _ e refl refl (λ z. omega arith))
line_tells m n x y hm hn (shown_off f t c h) (shown_off g u d k) e =
    let a = arc_tells f t c g u d x y h k (ap (drop 3) e) in
    let p = a.0 in
    let p1 = a.1 in
    let p2 = a.2 in (cc, a.3)
line_tells m n x y hm hn (shown_off f t c h) (shown_on g u d k) e = absurd (other 102 110 _ _ e refl refl (λ z. omega arith))
line_tells m n x y hm hn (shown_off f t c h) (shown_outlet u d k) e = absurd (other 102 117 _ _ e refl refl (λ z. omega arith))
line_tells m n x y hm hn (shown_on f t c h) (shown_cell j k) e = absurd (other 110 101 _ _ e refl refl (λ z. omega arith))
line_tells m n x y hm hn (shown_on f t c h) (shown_off g u d k) e = absurd (other 110 102 _ _ e refl refl (λ z. omega arith))
line_tells m n x y hm hn (shown_on f t c h) (shown_on g u d k) e =
    let a = arc_tells f t c g u d x y h k (ap (drop 2) e) in
    let p = a.0 in
    let p1 = a.1 in
    let p2 = a.2 in (cc, a.3)
line_tells m n x y hm hn (shown_on f t c h) (shown_outlet u d k) e = absurd (other 110 117 _ _ e refl refl (λ z. omega arith))
line_tells m n x y hm hn (shown_outlet t c h) (shown_cell j k) e = absurd (other 117 101 _ _ e refl refl (λ z. omega arith))
line_tells m n x y hm hn (shown_outlet t c h) (shown_off g u d k) e = absurd (other 117 102 _ _ e refl refl (λ z. omega arith))
line_tells m n x y hm hn (shown_outlet t c h) (shown_on g u d k) e = absurd (other 117 110 _ _ e refl refl (λ z. omega arith))
line_tells m n x y hm hn (shown_outlet t c h) (shown_outlet u d k) e =
    let a = two_tell t c u d x y h.0 h.1 k.0 k.1 (ap (drop 3) e) in
    let p = a.0 in
    let p1 = a.1 in (cc, a.2)

-- the first letter of a line is c or o
first_is : {r : Record} (n : ℕ) (x : List ℕ) → Shown r → (0 < get_or (line n r ++ x) 0 0) × (get_or (line n r ++ x) 0 0 < 115)
first_is n x (shown_cell i h) = (omega arith, omega arith)
first_is n x (shown_off f t c h) = (omega arith, omega arith)
first_is n x (shown_on f t c h) = (omega arith, omega arith)
first_is n x (shown_outlet t c h) = (omega arith, omega arith)

declare_most : {r : Record} (cells : List ℕ) → Shown r → length (declare cells r) ≤ length cells + 1
declare_most cells (shown_cell i h) = omega (arith, length_push cells i)
declare_most cells (shown_off f t c h) = omega arith
declare_most cells (shown_on f t c h) = omega arith
declare_most cells (shown_outlet t c h) = omega arith

tells : (rs ss : List Record) (cells : List ℕ) → Each Shown rs → Each Shown ss → length cells + length rs < 2 ^ 64 → length cells + length ss < 2 ^ 64
    → lines cells rs ≡ lines cells ss → rs ≡ ss
tells [] [] cells a b h k e = refl
tells [] (s ∷ ss) cells a b h k e = absurd (omega (arith, ap (λ l. get_or l 0 0) e, (first_is (length (declare cells s)) (lines (declare cells s) ss) b.0).0))
tells (r ∷ rs) [] cells a b h k e = absurd (omega (arith, ap (λ l. get_or l 0 0) e, (first_is (length (declare cells r)) (lines (declare cells r) rs) a.0).0))
tells (r ∷ rs) (s ∷ ss) cells a b h k e =
    let hr = declare_most cells a.0 in
    let hs = declare_most cells b.0 in
    let t = line_tells (length (declare cells r)) (length (declare cells s)) (lines (declare cells r) rs) (lines (declare cells s) ss) (omega arith) (omega arith) a.0 b.0 e in
    let rest : lines (declare cells r) rs ≡ lines (declare cells r) ss = t.1 ∙ ap (λ u. lines (declare cells u) ss) (sym t.0) in
    let u = tells rs ss (declare cells r) a.1 b.1 (omega arith) (omega arith) rest in ap (λ l. r ∷ l) u ∙ ap (λ q. q ∷ ss) t.0

first_letter : (rs : List Record) (cells : List ℕ) → Each Shown rs → get_or (lines cells rs) 0 0 ≢ 115
first_letter [] cells a z = omega arith
first_letter (r ∷ rs) cells a z = omega (arith, (first_is (length (declare cells r)) (lines (declare cells r) rs) a.0).1)

silent_tells : (x y : List ℕ) → get_or x 0 0 ≢ 115 → get_or y 0 0 ≢ 115 → or_silent x ≡ or_silent y → x ≡ y
silent_tells [] [] h k e = refl
silent_tells [] (b ∷ y) h k e = absurd (k (ap (λ l. get_or l 0 0) (sym e)))
silent_tells (a ∷ x) [] h k e = absurd (h (ap (λ l. get_or l 0 0) e))
silent_tells (a ∷ x) (b ∷ y) h k e = e

lines_solid : (rs : List Record) (cells : List ℕ) → lines cells rs ≡ lines cells (solid rs)
lines_solid [] cells = refl
lines_solid (filler ∷ rs) cells = lines_solid rs cells
lines_solid (cell i ∷ rs) cells = ap (λ l. line (length (declare cells (cell i))) (cell i) ++ l) (lines_solid rs (declare cells (cell i)))
lines_solid (off f t c ∷ rs) cells = ap (λ l. line (length cells) (off f t c) ++ l) (lines_solid rs cells)
lines_solid (on f t c ∷ rs) cells = ap (λ l. line (length cells) (on f t c) ++ l) (lines_solid rs cells)
lines_solid (outlet t c ∷ rs) cells = ap (λ l. line (length cells) (outlet t c) ++ l) (lines_solid rs cells)
lines_solid (unmarked ∷ rs) cells = lines_solid rs cells
lines_solid (unclean ∷ rs) cells = lines_solid rs cells

solid_most : (rs : List Record) → length (solid rs) ≤ length rs
solid_most [] = omega arith
solid_most (filler ∷ rs) = omega (arith, solid_most rs)
solid_most (cell i ∷ rs) = omega (arith, solid_most rs)
solid_most (off f t c ∷ rs) = omega (arith, solid_most rs)
solid_most (on f t c ∷ rs) = omega (arith, solid_most rs)
solid_most (outlet t c ∷ rs) = omega (arith, solid_most rs)
solid_most (unmarked ∷ rs) = omega (arith, solid_most rs)
solid_most (unclean ∷ rs) = omega (arith, solid_most rs)

pub listing_tells : (order other : List ℕ) (L M q r : ℕ) (bytes others : List ℕ) → Admitted order L q bytes → Admitted other M r others
    → (listing_text (records bytes) ≡ listing_text (records others)) ↔ (solid (records bytes) ≡ solid (records others))
listing_tells order other L M q r bytes others A B = (there, λ e. ap or_silent (lines_solid (records bytes) [] ∙ ap (lines []) e ∙ sym (lines_solid (records others) [])))
  where
    P : Patch order q bytes
    P = admitted_patch order L q bytes A

    Q : Patch other r others
    Q = admitted_patch other M r others B

    shown_one : Each Shown (solid (records bytes))
    shown_one = each_shown order q (records bytes) [] P.fine (records_small bytes P.held)

    shown_two : Each Shown (solid (records others))
    shown_two = each_shown other r (records others) [] Q.fine (records_small others Q.held)

    few_one : length (solid (records bytes)) < 2 ^ 64
    few_one = omega (arith, solid_most (records bytes), records_length bytes, admitted_short order L q bytes A)

    few_two : length (solid (records others)) < 2 ^ 64
    few_two = omega (arith, solid_most (records others), records_length others, admitted_short other M r others B)

    there : listing_text (records bytes) ≡ listing_text (records others) → solid (records bytes) ≡ solid (records others)
    there e =
        let same = silent_tells (lines [] (records bytes)) (lines [] (records others)) (λ z. first_letter (solid (records bytes)) [] shown_one (ap (λ l. get_or l 0 0) (sym (lines_solid (records bytes) [])) ∙ z)) (
        λ z. first_letter (solid (records others)) [] shown_two (ap (λ l. get_or l 0 0) (sym (lines_solid (records others) [])) ∙ z)) e in
        tells (solid (records bytes)) (solid (records others)) [] shown_one shown_two (omega (arith, few_one)) (omega (arith, few_two)) (sym (lines_solid (records bytes) []) ∙ same ∙ lines_solid (records others) [])
