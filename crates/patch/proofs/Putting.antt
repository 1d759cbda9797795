-- Texts put one behind the other. Assumes nothing.
use Rattle.std.proofs.Common.{◌≡◌, ℕ, zero, suc, ◌+◌, ◌-◌, min, inl, inr, ◌/◌, ◌%◌, ◌^◌, ◌<◌, ◌≤◌, List, [], ◌∷◌, ◌++◌, length, take, drop, set, decimal, sym, refl, ap, ◌∙◌, add-zero, arith}
use Rattle.std.proofs.lemmas.List.{append_assoc, append-nil, set_past, take_all, drop_all, drop-drop, length-drop, length-append, length-set, take-append-drop, take_more_set, drop-set-lt}
use Rattle.std.proofs.lemmas.Fmt.{decimal_digit, decimal_step, length-decimal-le}
use Rattle.std.proofs.lemmas.Bool.{cases_lt}
use borrow.Rule.Slice.PartMut.{put_mid}
use Rattle.patch.specs.declared.text.Output.{Output}
use Rattle.patch.specs.Output.{laid, Put, Puts}

pub put_none : (out : List ℕ) (p : ℕ) → Put out p [] out p
put_none out p = record { writes = refl; ends = sym (add-zero p) }

laid_more : (x y : List ℕ) (out : List ℕ) (p e : ℕ) → e ≡ p + length x → laid (laid out p x) e y ≡ laid out p (x ++ y)
laid_more [] y out p e h = ap (λ n. laid out n y) (h ∙ add-zero p)
laid_more (b ∷ x) y out p e h = laid_more x y (set out p b) (p + 1) e (omega arith)

pub put_then : {out : List ℕ} {p : ℕ} {x : List ℕ} {mid : List ℕ} {m : ℕ} {y after : List ℕ} {e : ℕ}
    → Put out p x mid m → Put mid m y after e → Put out p (x ++ y) after e
put_then {out} {p} {x} {mid} {m} {y} {after} {e} a b = record {
  writes = b.writes ∙ ap (λ o. laid o m y) a.writes ∙ laid_more x y out p m a.ends;
  ends = omega (arith, a.ends, b.ends, length-append x y);
}

-- a number: its digits but the last, and the last
pub number_one : {out : List ℕ} {p : ℕ} {after : List ℕ} {e : ℕ} (n : ℕ) → n < 10 → Put out p ((48 + n % 10) ∷ []) after e → Put out p (decimal n) after e
number_one {out} {p} {after} {e} n h a =
    let low : n % 10 ≡ n = omega arith in
    let same : ((48 + n % 10) ∷ []) ≡ decimal n = ap (λ d. (48 + d) ∷ []) low ∙ sym (decimal_digit n h) in
    rw same at a

pub number_more : {out : List ℕ} {p : ℕ} {mid : List ℕ} {m : ℕ} {after : List ℕ} {e : ℕ} (n : ℕ) → 10 ≤ n → n < 2 ^ 64 → Put out p (decimal (n / 10)) mid m
    → Put mid m ((48 + n % 10) ∷ []) after e → Put out p (decimal n) after e
number_more {out} {p} {mid} {m} {after} {e} n h l a b =
    let q = put_then a b in record {
      writes = q.writes ∙ ap (laid out p) (sym (decimal_step n h l));
      ends = q.ends ∙ ap (λ t. p + length t) (sym (decimal_step n h l));
    }

pub number_near : {out : List ℕ} {p : ℕ} {after : List ℕ} {e : ℕ} (n : ℕ) → n < 2 ^ 64 → Put out p (decimal n) after e → e ≤ p + 20
number_near n h a = omega (arith, a.ends, length-decimal-le 20 n (omega arith) (omega arith) h)

-- an output that is long enough has the whole text, and all else is as it was
laid_whole : (text out : List ℕ) (p : ℕ) → p + length text ≤ length out → laid out p text ≡ take p out ++ (text ++ drop (p + length text) out)
laid_whole [] out p h = sym (take-append-drop p out) ∙ ap (λ n. take p out ++ drop n out) (sym (add-zero p))
laid_whole (b ∷ text) out p h =
    let l : p < length out = omega arith in
    let n : p + 1 + length text ≡ p + suc (length text) = omega arith in
    laid_whole text (set out p b) (p + 1) (omega (arith, length-set out p b))
    ∙ ap (λ f. f ++ (text ++ drop (p + 1 + length text) (set out p b))) (take_more_set out p b l)
    ∙ append_assoc (take p out) (b ∷ []) (text ++ drop (p + 1 + length text) (set out p b))
    ∙ ap (λ r. take p out ++ (b ∷ (text ++ r))) (drop-set-lt (p + 1 + length text) out p b (omega arith) ∙ ap (λ m. drop m out) n)

-- a shorter one ends with as much of it as there is room for, and one that ends before it stays
laid_past : (text out : List ℕ) (p : ℕ) → length out ≤ p → laid out p text ≡ out
laid_past [] out p h = refl
laid_past (b ∷ text) out p h = ap (λ o. laid o (p + 1) text) (set_past out p b h) ∙ laid_past text out (p + 1) (omega arith)

laid_cut : (text out : List ℕ) (p k : ℕ) → p + k ≡ length out → k ≤ length text → laid out p text ≡ take p out ++ take k text
laid_cut text out p zero e h = laid_past text out p (omega arith) ∙ sym (append-nil _ ∙ take_all p out (omega arith))
laid_cut [] out p (suc k) e h = absurd (omega arith)
laid_cut (b ∷ text) out p (suc k) e h =
    laid_cut text (set out p b) (p + 1) k (omega (arith, length-set out p b)) (omega arith)
    ∙ ap (λ f. f ++ take k text) (take_more_set out p b (omega arith)) ∙ append_assoc (take p out) (b ∷ []) (take k text)

-- as much of a text copied into an output as there is room for
copied : (out text new : List ℕ) (p s : ℕ) → p < length out → s ≡ min (p + length text) (length out) → new ≡ take (s - p) text → put_mid p (s - p) out new ≡ laid out p text
copied out text new p s l m e = elim (cases_lt (length out) (p + length text)) [
  | inl short ↦
      let d : drop (s - p) (drop p out) ≡ [] = drop_all (s - p) (drop p out) (omega (arith, length-drop p out)) in
      rw (e, d) (ap (λ t. take p out ++ t) (append-nil (take (s - p) text)) ∙ sym (laid_cut text out p (s - p) (omega arith) (omega arith)))
  | inr fits ↦
      let k : s - p ≡ length text = omega arith in
      let n : new ≡ text = e ∙ ap (λ j. take j text) k ∙ take_all (length text) text (omega arith) in
      let d : drop (s - p) (drop p out) ≡ drop (p + length text) out = ap (λ j. drop j (drop p out)) k ∙ drop-drop (length text) p out in
      rw (n, d) (sym (laid_whole text out p fits))
]

pub put_copied : (out text new : List ℕ) (p s : ℕ) → p < length out → s ≡ min (p + length text) (length out) → new ≡ take (s - p) text
    → Put out p text (put_mid p (s - p) out new) (p + length text)
put_copied out text new p s l m e = record { writes = copied out text new p s l m e; ends = refl }

pub put_past : (out text : List ℕ) (p : ℕ) → length out ≤ p → Put out p text out (p + length text)
put_past out text p h = record { writes = sym (laid_past text out p h); ends = refl }

pub put_whole : (out text after : List ℕ) (e : ℕ) → Put out 0 text after e → length text ≤ length out → after ≡ text ++ drop (length text) out
put_whole out text after e a h =
    let z : 0 + length text ≡ length text = omega arith in a.writes ∙ laid_whole text out 0 (omega arith) ∙ ap (λ n. text ++ drop n out) z

pub put_length : (out text after : List ℕ) (e : ℕ) → Put out 0 text after e → e ≡ length text
put_length out text after e a = omega (arith, a.ends)

pub put_as : {out : List ℕ} {p : ℕ} {text other after : List ℕ} {e : ℕ} → text ≡ other → Put out p text after e → Put out p other after e
put_as {out} {p} s a = record { writes = a.writes ∙ ap (laid out p) s; ends = a.ends ∙ ap (λ t. p + length t) s }

pub puts_then : {a b d : Output} {x y : List ℕ} → Puts a x b → Puts b y d → Puts a (x ++ y) d
puts_then p q = record { same = q.same ∙ p.same; put = put_then p.put q.put }
