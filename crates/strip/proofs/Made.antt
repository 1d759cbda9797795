-- What `array::from_fn` made of a closure whose calls leave it as it was. Assumes nothing.
use Rattle.std.proofs.Common.{◌≡◌, ℕ, zero, suc, ◌+◌, ◌<◌, ◌≤◌, List, get_or, ◌∙◌, subst, ⊎_elim, arith}
use Rattle.std.proofs.lemmas.Bool.{cases_eq}
use Rattle.std.specs.Array.{IsFromFnResult, IsFromFnResultFrom}
use Rattle.std.specs.Fn.{Called}
use denote.Param.Members.{Mut}

-- from the index i on; h is what the closure answers
made_from : {F : Type 0} (G : Mut F (ℕ × Unit {0}) ℕ) (f : F) (h : ℕ → ℕ) → ((k r : ℕ) (q : F) → Called G f (k, tt) r q → (r ≡ h k) × (q ≡ f))
    → (ys : List ℕ) (i n : ℕ) → IsFromFnResultFrom G f ys i n → (k : ℕ) → i ≤ k → k < i + n → get_or ys k 0 ≡ h k
made_from G f h calls ys i zero m k l o = absurd (omega arith)
made_from G f h calls ys i (suc n) (q, y, here, call, rest) k l o =
    ⊎_elim
    (λ e. rw e (here.1 0 ∙ (calls i y q call).0))
    (λ ne. made_from G f h calls ys (i + 1) n (subst (λ p. IsFromFnResultFrom G p ys (i + 1) n) (calls i y q call).1 rest) k (omega arith) (omega arith)) (cases_eq k i)

pub made : {F : Type 0} {G : Mut F (ℕ × Unit {0}) ℕ} {f : F} {ys : List ℕ} {n : ℕ} (h : ℕ → ℕ) → IsFromFnResult G f ys n
    → ((k r : ℕ) (q : F) → Called G f (k, tt) r q → (r ≡ h k) × (q ≡ f)) → (k : ℕ) → k < n → get_or ys k 0 ≡ h k
made {F} {G} {f} {ys} {n} h m calls k l = made_from G f h calls ys 0 n m.each k (omega arith) (omega arith)
