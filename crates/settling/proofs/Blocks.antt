-- What a position of the backward pass leaves in working memory.
use Rattle.std.proofs.Common.{◌≡◌, ℕ, ◌+◌, ◌-◌, ◌<◌, ◌≤◌, List, get_or, sym, refl, ap, ◌∙◌, add_assoc, arith}
use native.Mathlib.Decide.{dec_lt, dec_le}
use Rattle.linear.specs.Linear.{comb, SpannedOn}
use Rattle.linear.specs.Sums.{sum as total}
use Rattle.linear.proofs.Ring.{times_zero}
use Rattle.linear.proofs.Sums.{sum_cong, sum_zero}
use Rattle.diagram.specs.Diagram.{Assignment, Diagram}
use Rattle.diagram.specs.Packed.{nth}
use Rattle.diagram.specs.Packed as packed
use Rattle.diagram.specs.Passes.{Extends}
use Rattle.diagram.specs.Passes as passes
use Rattle.diagram.proofs.Pack.{packs}
use Rattle.scale.specs.Model.{ScaleModel}
use Rattle.elimination.specs.Arithmetic.{arithmetic}
use Rattle.elimination.specs.Lift.{Element, some_code, scalars, up, Grid}
use Rattle.strip.specs.Row.{Row}
use Rattle.elimination.specs.Rows.{rows_in, Rows, Echelon, Tidy, SpansAs, Outside, InSpan}
use Rattle.elimination.proofs.Grids.{rows_coded}
use Rattle.elimination.proofs.Lifting.{up_one, up_none, up_is_zero, up_combine}
use Rattle.elimination.proofs.Sums as sums
use Rattle.elimination.proofs.Sums.{at}
use Rattle.elimination.proofs.Tidying.{span_row}
use Rattle.settling.specs.Backing.{celled, Images, filled, rows, Numbered, Cellular, Backs, Derives, Least, Exceeds, Stepped}
use Rattle.settling.specs.Draft.{drawn, Ordered, Span}
use Rattle.settling.proofs.Counting.{filled_true, filled_false}
use Rattle.settling.proofs.Levelling.{from_on, next_built, next_imaged, at_least}

pub rows_shift : {S : Type 0} (code : S → Row) (w : List S) (b a i : ℕ) → Rows code w (b + a) i ≡ Rows code w b (a + i)
unfolding Rows
rows_shift code w b a i = ap (rows_in code w) (add_assoc b a i)

module _ (M : ScaleModel) {S : Type 0} (code : S → Row) (coded : (s : S) (p : ℕ) → code s p < M.q) (m : ℕ) (w₀ w₁ : List S) (a e size : ℕ) (some : a < e) (ends : e ≤ m) (m_in : m < 128)
    (images : Images M code w₀ w₁ m a e e) (cellular : Cellular code w₀ m size e) where
  code_in : (w : List S) (b i p : ℕ) → Rows code w b i p < M.q
  code_in w = rows_coded code M.q (some_code M) coded w

  none_there : (c : ℕ → Element M) (q : ℕ) → size ≤ q → total (scalars M) (m + 1 - e) (λ i. (scalars M).times (c (e + i)) (Grid M code w₀ 384 (e + i) q)) ≡ (scalars M).zero
  none_there c q l =
      sum_zero (scalars M) (m + 1 - e) _ (λ i b. ap ((scalars M).times (c (e + i))) (up_is_zero M (cellular.img (e + i) q (omega arith) (omega arith) l)) ∙ times_zero (scalars M) _)

  pub gain_past : (h q : ℕ) → a ≤ h → h < e → size ≤ q → Rows code w₁ 128 h q ≡ 0
  gain_past h q l b k = up_none M _ (code_in w₁ 128 h q) ((images.done h l b).dif q ∙ none_there (Grid M code w₀ 128 h) q k)

  pub image_past : (h q : ℕ) → a ≤ h → h < e → size ≤ q → Rows code w₁ 384 h q ≡ 0
  image_past h q l b k = up_none M _ (code_in w₁ 384 h q) ((images.done h l b).img q ∙ none_there (Grid M code w₀ 0 h) q k)

  pub source_past : (i q : ℕ) → i < e - a → size ≤ q → Rows code w₁ (128 + a) i q ≡ 0
  source_past i q l k = at (rows_shift code w₁ 128 a i) q ∙ gain_past (a + i) q (omega arith) (omega arith) k

  -- the table
  module _ (w₂ : List S) (size_in : size ≤ 32) (shape : Echelon size (Rows code w₂ 256)) (tidy : Tidy size size (Rows code w₂ 256))
      (spans : SpansAs (arithmetic M) (e - a) (Rows code w₁ (128 + a)) size (Rows code w₂ 256)) (outside : Outside code w₁ 256 size w₂) where
    abbrev R : ℕ → Row
    R = Rows code w₂ 256

    made_of : (k : ℕ) → k < size → InSpan (arithmetic M) (e - a) (Rows code w₁ (128 + a)) (R k)
    made_of k l = spans.from (R k) (span_row (arithmetic M) size R (λ h p. code_in w₂ 256 h p) k l)

    table_past : (k q : ℕ) → k < size → size ≤ q → R k q ≡ 0
    table_past k q l b =
        (made_of k l).is q
        ∙ sums.sum_zero (arithmetic M) (e - a) (λ i. (arithmetic M).times ((made_of k l).coef i) (Rows code w₁ (128 + a) i q)) (λ i r. ap ((arithmetic M).times ((made_of k l).coef i)) (source_past i q r b) ∙ sums.times_zero (arithmetic M) _)

    tidied : packed.Tidy (scalars M) size (filled R) (λ k u. up M (R k u))
    tidied = record {
      head = λ h l b. ap (up M) (tidy.heads h l (filled_true R h b)) ∙ up_one M;
      before = λ h t l b k. up_is_zero M (shape.low h t l k);
      clear = λ h k l b r s ne. up_is_zero M (tidy.alone k h b l ne (filled_true R k s));
      blank = λ h t l b k. up_is_zero M (shape.blank h t l (filled_false R h b));
    }

    made : (k : ℕ) → k < size → (c : ℕ → Element M) × ((u : ℕ) → u < size → up M (R k u) ≡ total (scalars M) (e - a) (λ i. (scalars M).times (c i) (Grid M code w₁ 128 (a + i) u)))
    made k l = (
      (λ i. up M ((made_of k l).coef i)),
      λ u b.
          ap (up M) ((made_of k l).is u) ∙ up_combine M (e - a) (made_of k l).coef (Rows code w₁ (128 + a)) u
          ∙ sum_cong (scalars M) (e - a) _ _ (λ i r. ap (λ (x : ℕ). (scalars M).times (up M ((made_of k l).coef i)) (up M x)) (at (rows_shift code w₁ 128 a i) u)),
    )

    spanned : (h : ℕ) → a ≤ h → h < e → SpannedOn (scalars M) (λ u. u < size) size (λ k u. up M (R k u)) (Grid M code w₁ 128 h)
    spanned h l b =
        let there : a + (h - a) ≡ h = omega arith in
        let row : Rows code w₁ (128 + a) (h - a) ≡ Rows code w₁ 128 h = rows_shift code w₁ 128 a (h - a) ∙ ap (Rows code w₁ 128) there in
        let s = spans.to (Rows code w₁ (128 + a) (h - a)) (span_row (arithmetic M) (e - a) (Rows code w₁ (128 + a)) (λ i p. code_in w₁ (128 + a) i p) (h - a) (omega arith)) in
        ((λ k. up M (s.coef k)), λ u k. ap (up M) (sym (at row u) ∙ s.is u) ∙ up_combine M size s.coef R u)

    -- the cells made of it
    module _ (cpos : List ℕ) (w₃ : List S) (cpos' : List ℕ) (j p : ℕ) (num : Numbered code w₂ cpos w₃ cpos' p a e size size j) where
      old_cell : (i : ℕ) → i < size → Rows code w₃ 288 i ≡ Rows code w₀ 288 i
      old_cell i l = num.can_old i l ∙ outside.after 288 i (omega arith) ∙ images.tab 288 i (omega arith) (omega arith)

      far_image : (h : ℕ) → e ≤ h → Rows code w₃ 384 h ≡ Rows code w₀ 384 h
      far_image h l = num.img_other h l ∙ outside.after 384 h (omega arith) ∙ images.img_later h l

      near_image : (h : ℕ) → Rows code w₂ 384 h ≡ Rows code w₁ 384 h
      near_image h = outside.after 384 h (omega arith)

      head : (i : ℕ) → i < rows R size → nth (filled R) size i < size
      head i l = (packs (filled R) size).below i l

      new_cell_past : (i q : ℕ) → i < rows R size → size ≤ q → Rows code w₃ 288 (size + i) q ≡ 0
      new_cell_past i q l b = at (num.can_new i l) q ∙ table_past (nth (filled R) size i) q (head i l) b

      cell_past : (i q : ℕ) → i < j → size ≤ q → Rows code w₃ 288 i q ≡ 0
      cell_past i q l b = elim (dec_lt i size) [
        | yes o ↦ at (old_cell i o) q ∙ cellular.can i q o b
        | no o ↦ (
            let there : size + (i - size) ≡ i = omega arith in
            ap (λ (t : ℕ). Rows code w₃ 288 t q) (sym there) ∙ new_cell_past (i - size) q (omega (arith, num.many)) b
            )
      ]

      pub cellular' : Cellular code w₃ m j a
      cellular' = record {
        can = λ i q l b. cell_past i q l (omega (arith, num.many));
        img = λ h q l b k. elim (dec_lt h e) [
          | yes o ↦ num.img_past h q l o k ∙ at (near_image h) q ∙ image_past h q l o (omega (arith, num.many))
          | no o ↦ at (far_image h (omega arith)) q ∙ cellular.img h q (omega arith) b (omega (arith, num.many))
        ];
      }

    module _ (pos : List ℕ) (order : Ordered m pos) (span : Span pos a e) (edge : (v : ℕ) → v < e → get_or pos v 0 < get_or pos e 0)
        (off dif : ℕ → ℕ → Element M) (out out' : ℕ → Element M) (f : Assignment → Element M) (derives : Derives M (get_or pos m 0) m (drawn m pos off dif out) f)
        (cpos : List ℕ) (backs : Backs M code (get_or pos m 0) m (drawn m pos off dif out) f out' w₀ cpos size e) where
      abbrev D : Diagram (Element M)
      D = drawn m pos off dif out

      abbrev C : Diagram (Element M)
      C = celled M code w₀ cpos size out'

      later : (v : ℕ) → e ≤ v → v < m + 1 → get_or pos a 0 < get_or pos v 0
      later v l b = omega (arith, edge a some, order.rising e v l (omega arith))

      up_to : (h t : ℕ) → a ≤ h → h < e → t < e → get_or pos t 0 ≤ get_or pos h 0
      up_to h t l b k = elim (dec_lt t a) [
        | yes o ↦ omega (arith, span.earlier t o, span.same h l b)
        | no o ↦ omega (arith, span.same t (omega arith) k, span.same h l b)
      ]

      gains : (h u : ℕ) → a ≤ h → h < e → Grid M code w₁ 128 h u ≡ comb (scalars M) (m + 1) (dif h) (Grid M code w₀ 384) u
      gains h u l b =
          (images.done h l b).dif u ∙ sum_cong (scalars M) (m + 1 - e) _ _ (λ i r. ap (λ x. (scalars M).times x (Grid M code w₀ 384 (e + i) u)) (backs.dif h (e + i) b))
          ∙ sym (from_on (scalars M) (m + 1) e (dif h) (Grid M code w₀ 384) (omega arith) (λ t k. derives.formed.dif_later h t (omega arith) (omega arith) (up_to h t l b k)) u)

      rests : (h u : ℕ) → a ≤ h → h < e → Grid M code w₁ 384 h u ≡ comb (scalars M) (m + 1) (off h) (Grid M code w₀ 384) u
      rests h u l b =
          (images.done h l b).img u ∙ sum_cong (scalars M) (m + 1 - e) _ _ (λ i r. ap (λ x. (scalars M).times x (Grid M code w₀ 384 (e + i) u)) (backs.off h (e + i) b))
          ∙ sym (from_on (scalars M) (m + 1) e (off h) (Grid M code w₀ 384) (omega arith) (λ t k. derives.formed.off_later h t (omega arith) (omega arith) (up_to h t l b k)) u)

      pub too_many : 33 ≤ size + rows R size → Least M (get_or pos m 0) f 33
      too_many many E form agree =
          let need : size + (33 - size) ≤ E.places =
          at_least (scalars M) (get_or pos m 0) m D derives.formed refl f derives.reached C (Grid M code w₀ 384) a e some ends (order.cells a (omega arith))
          span.same span.earlier later backs.built (λ h l b x. backs.imaged h l (omega arith) x) (filled R) (λ k u. up M (R k u)) tidied (Grid M code w₁ 128)
          (λ h u l b k. gains h u l b) made spanned (33 - size) (omega arith) E form agree in
          omega arith

      -- and the cells made of it
      module _ (w₃ : List S) (cpos' : List ℕ) (j : ℕ) (num : Numbered code w₂ cpos w₃ cpos' (get_or pos a 0) a e size size j) where
        abbrev C' : Diagram (Element M)
        C' = celled M code w₃ cpos' j out'

        extends : Extends (scalars M) C C' (get_or pos a 0) (rows R size) (λ i u. up M (R (nth (filled R) size i) u))
        extends = record {
          places = num.many;
          pos_old = num.pos_old;
          pos_new = num.pos_new;
          off_zero = λ i t l b. refl;
          dif_old = λ i t l b. ap (up M) (at (old_cell cpos w₃ cpos' j (get_or pos a 0) num i l) t);
          dif_new = λ i t l b. ap (up M) (at (num.can_new i l) t);
          dif_none = λ i t l b k. up_is_zero M (cell_past cpos w₃ cpos' j (get_or pos a 0) num i t l b);
        }

        imaging : passes.Images (scalars M) D C (get_or pos a 0) (rows R size) (nth (filled R) size) (Grid M code w₀ 384) (Grid M code w₃ 384)
        imaging = record {
          kept = λ h u l b k. ap (up M) (at (far_image cpos w₃ cpos' j (get_or pos a 0) num h (past h b)) u);
          none = λ h i l b k. up_is_zero M (at (far_image cpos w₃ cpos' j (get_or pos a 0) num h (past h b)) (size + i) ∙ cellular.img h (size + i) (past h b) (omega arith) (omega arith));
          rest_part = λ h u l q k. (let s = block h l q in ap (up M) (num.img_old h u s.0 s.1 k ∙ at (near_image cpos w₃ cpos' j (get_or pos a 0) num h) u) ∙ rests h u s.0 s.1);
          gain_part = λ h i l q k.
              let s = block h l q in
              ap (up M) (num.img_new h i s.0 s.1 k ∙ at (outside.before 128 h (omega arith)) (nth (filled R) size i)) ∙ gains h (nth (filled R) size i) s.0 s.1;
        }
          where
            past : (h : ℕ) → get_or pos a 0 < get_or pos h 0 → e ≤ h
            past h b = elim (dec_le e h) [
              | yes o ↦ o
              | no o ↦ absurd (omega (arith, up_to a h (omega arith) some (omega arith)))
            ]

            block : (h : ℕ) → h < m + 1 → get_or pos h 0 ≡ get_or pos a 0 → (a ≤ h) × h < e
            block h l q = (
              elim (dec_le a h) [ yes o ↦ o | no o ↦ absurd (omega (arith, span.earlier h (omega arith))) ],
              elim (dec_lt h e) [ yes o ↦ o | no o ↦ absurd (omega (arith, later h (omega arith) l)) ],
            )

        pub backs' : Backs M code (get_or pos m 0) m D f out' w₃ cpos' j a
        backs' = record {
          off = λ h u l. ap (up M) (at (num.off h (omega arith) ∙ outside.before 0 h (omega arith) ∙ images.off h (omega arith)) u) ∙ backs.off h u (omega arith);
          dif = λ h u l. ap (up M) (at (num.dif h (omega arith) ∙ outside.before 128 h (omega arith) ∙ images.dif_before h l) u) ∙ backs.dif h u (omega arith);
          built = next_built (scalars M) (get_or pos m 0) m D derives.formed refl f derives.reached C (Grid M code w₀ 384) a e some ends (order.cells a (omega arith))
              span.same span.earlier later backs.built (λ h l b x. backs.imaged h l (omega arith) x) (filled R) (λ k u. up M (R k u)) tidied (Grid M code w₁ 128)
              (λ h u l b k. gains h u l b) made spanned C' extends;
          imaged = λ h l b x.
              next_imaged (scalars M) (get_or pos m 0) m D derives.formed refl f derives.reached C (Grid M code w₀ 384) a e some ends (order.cells a (omega arith))
              span.same span.earlier later backs.built (λ h l b x. backs.imaged h l (omega arith) x) (filled R) (λ k u. up M (R k u)) tidied (Grid M code w₁ 128)
              (λ h u l b k. gains h u l b) made spanned C' extends (Grid M code w₃ 384) imaging h l (omega arith) x;
        }

    -- the whole step: the cells get too many, or the position is done
    module _ (pos : List ℕ) (order : Ordered m pos) (span : Span pos a e) (edge : (v : ℕ) → v < e → get_or pos v 0 < get_or pos e 0) (cpos : List ℕ) where
      pub exceeds : 33 ≤ size + rows R size → Exceeds M code pos m w₀ cpos size e
      exceeds many off dif out out' f derives backs = too_many pos order span edge off dif out out' f derives cpos backs many

      pub stepped : (w₃ : List S) (cpos' : List ℕ) (j : ℕ) → j ≤ 32 → Numbered code w₂ cpos w₃ cpos' (get_or pos a 0) a e size size j → Stepped M code pos m w₀ cpos size e w₃ cpos' j a
      stepped w₃ cpos' j few num = record {
        more = omega (arith, num.many);
        few = few;
        cellular = cellular' cpos w₃ cpos' j (get_or pos a 0) num;
        recedes = λ off dif out out' f derives backs. backs' pos order span edge off dif out out' f derives cpos backs w₃ cpos' j num;
      }
