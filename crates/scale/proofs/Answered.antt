-- What is answered at codes is the operation. Assumes nothing.
use Rattle.std.proofs.Common.{◌≡◌, ℕ, ◌<◌, ◌≤◌, ◌&&◌, ltb}
use Rattle.std.proofs.lemmas.Bool.{cond-true, cond-false, and_from, lt-ltb, le-ltb}
use Rattle.scale.specs.Model.{at_code, at_codes}

pub at_code_is : (q : ℕ) (f : ℕ → ℕ) (a : ℕ) → a < q → at_code q f a ≡ f a
at_code_is q f a h = cond-true (ltb a q) (f a) 0 (lt-ltb a q h)

pub at_codes_is : (q : ℕ) (f : ℕ → ℕ → ℕ) (a b : ℕ) → a < q → b < q → at_codes q f a b ≡ f a b
at_codes_is q f a b h k = cond-true (ltb a q && ltb b q) (f a b) 0 (and_from (ltb a q) (ltb b q) (lt-ltb a q h) (lt-ltb b q k))

pub at_code_none : (q : ℕ) (f : ℕ → ℕ) (a : ℕ) → q ≤ a → at_code q f a ≡ 0
at_code_none q f a l = cond-false (ltb a q) (f a) 0 (le-ltb a q l)
