-- What fits into bytes: the numbers of the records of a patch, and the bytes that records are written to. Assumes nothing.
use Rattle.std.proofs.Common.{ℕ, zero, suc, ◌<◌, ◌&&◌, eqb, List, [], ◌∷◌, length, inl, inr, arith}
use native.Mathlib.Decide.{dec_lt}
use lib.ListN.{get_or-eq_default}
use Rattle.std.proofs.lemmas.Bool.{cases_lt, cond_both}
use Rattle.patch.specs.Records.{Record, filler, cell, off, on, outlet, unmarked, unclean, read, records, nth, cells_of}
use Rattle.patch.specs.Faults.{Bytes, Patch}
use Rattle.patch.specs.Paths.{target}
use Rattle.patch.specs.Settled.{Kept}
use Rattle.patch.specs.Encoding.{written}
use Rattle.patch.proofs.Each.{Each, each_among, each_nth}

-- the numbers of a record fit into bytes
abbrev pub Small : Record → Type 0
Small filler = Unit
Small (cell i) = i < 256
Small (off f t c) = (f < 256) × (t < 256) × (c < 256)
Small (on f t c) = (f < 256) × (t < 256) × (c < 256)
Small (outlet t c) = (t < 256) × (c < 256)
Small unmarked = Unit
Small unclean = Unit

more : (x : ℕ) (xs : List ℕ) → x < 256 → Bytes xs → Bytes (x ∷ xs)
more x xs h b zero l = h
more x xs h b (suc i) l = b i (omega arith)

four_more : (m a b c : ℕ) (xs : List ℕ) → m < 256 → a < 256 → b < 256 → c < 256 → Bytes xs → Bytes (m ∷ a ∷ b ∷ c ∷ xs)
four_more m a b c xs hm ha hb hc h = more m (a ∷ b ∷ c ∷ xs) hm (more a (b ∷ c ∷ xs) ha (more b (c ∷ xs) hb (more c xs hc h)))

pub written_held : (rs : List Record) → Each Small rs → Bytes (written rs)
written_held [] a = λ i l. absurd (omega arith)
written_held (filler ∷ rs) a = four_more 0 0 0 0 (written rs) (omega arith) (omega arith) (omega arith) (omega arith) (written_held rs a.1)
written_held (cell i ∷ rs) a = four_more 1 i 0 0 (written rs) (omega arith) a.0 (omega arith) (omega arith) (written_held rs a.1)
written_held (off f t c ∷ rs) a = four_more 2 f t c (written rs) (omega arith) a.0.0 a.0.1 a.0.2 (written_held rs a.1)
written_held (on f t c ∷ rs) a = four_more 3 f t c (written rs) (omega arith) a.0.0 a.0.1 a.0.2 (written_held rs a.1)
written_held (outlet t c ∷ rs) a = four_more 4 0 t c (written rs) (omega arith) (omega arith) a.0.0 a.0.1 (written_held rs a.1)
written_held (unmarked ∷ rs) a = written_held rs a.1
written_held (unclean ∷ rs) a = written_held rs a.1

read_small : (m a b c : ℕ) → a < 256 → b < 256 → c < 256 → Small (read m a b c)
read_small m a b c ha hb hc =
    cond_both (eqb m 0) _ _ Small (λ _. cond_both (eqb a 0 && eqb b 0 && eqb c 0) filler unclean Small (λ _. tt) (λ _. tt)) (
    λ _.
    cond_both (eqb m 1) _ _ Small (λ _. cond_both (eqb b 0 && eqb c 0) (cell a) unclean Small (λ _. ha) (λ _. tt)) (
    λ _.
    cond_both (eqb m 2) _ _ Small (λ _. (ha, hb, hc)) (
    λ _.
    cond_both (eqb m 3) _ _ Small (λ _. (ha, hb, hc)) (
    λ _. cond_both (eqb m 4) _ _ Small (λ _. cond_both (eqb a 0) (outlet b c) unclean Small (λ _. (hb, hc)) (λ _. tt)) (λ _. tt)))))

pub records_small : (bytes : List ℕ) → Bytes bytes → Each Small (records bytes)
records_small [] h = tt
records_small (m ∷ []) h = tt
records_small (m ∷ a ∷ []) h = tt
records_small (m ∷ a ∷ b ∷ []) h = tt
records_small (m ∷ a ∷ b ∷ c ∷ rest) h = (
  read_small m a b c (h 1 (omega arith)) (h 2 (omega arith)) (h 3 (omega arith)),
  records_small rest (λ i l. h (suc (suc (suc (suc i)))) (omega arith)),
)

pub nth_small : (bytes : List ℕ) → Bytes bytes → (k : ℕ) → Small (nth (records bytes) k)
nth_small bytes h k =
    elim (cases_lt k (length (records bytes))) [
      | inl l ↦ each_nth Small (records bytes) k l (records_small bytes h)
      | inr l ↦ rw (get_or-eq_default (records bytes) filler l) tt
    ]

small_target : (r : Record) → Small r → target r < 256
small_target filler s = omega arith
small_target (cell i) s = omega arith
small_target (off f t c) s = s.1
small_target (on f t c) s = s.1
small_target (outlet t c) s = s.0
small_target unmarked s = omega arith
small_target unclean s = omega arith

-- an arc of a patch leads to one of the cells 0 to 255
pub target_small : (order : List ℕ) (q : ℕ) (bytes : List ℕ) → Patch order q bytes → (k : ℕ) → target (nth (records bytes) k) < 256
target_small order q bytes p k = small_target (nth (records bytes) k) (nth_small bytes p.held k)

-- where each cell has an arc, all of them are numbered by bytes
pub cells_few : (order : List ℕ) (q : ℕ) (bytes : List ℕ) → Patch order q bytes → Kept order (records bytes) → cells_of (records bytes) < 256
cells_few order q bytes p K =
    elim (dec_lt 0 (cells_of (records bytes))) [
      | yes l ↦
          let h = K.headed (cells_of (records bytes)) l (omega arith) in
          (each_among Small (records bytes) (records_small bytes p.held) (on (cells_of (records bytes)) h.0 h.1.arc.0) h.1.arc.1).0
      | no l ↦ omega arith
    ]
