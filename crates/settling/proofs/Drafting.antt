-- For those who draft: a draft whose rows hold 0 but at later positions is well formed.
use Rattle.std.proofs.Common.{◌≡◌, ℕ, ◌≤◌, List, get_or, refl, arith}
use Rattle.diagram.specs.Diagram.{Formed}
use Rattle.scale.specs.Model.{ScaleModel}
use Rattle.strip.specs.Row.{Row}
use Rattle.elimination.specs.Lift.{scalars}
use Rattle.elimination.specs.Rows.{Rows}
use Rattle.elimination.proofs.Lifting.{up_is_zero}
use Rattle.settling.specs.Draft.{steps, drafted, Ordered}

pub formed_draft : (M : ScaleModel) {S : Type 0} (code : S → Row) (work : List S) (pos : List ℕ) (m : ℕ) (out : Row) → Ordered m pos
    → ((t u : ℕ) → t ≤ m → u ≤ m → get_or pos u 0 ≤ get_or pos t 0 → Rows code work 0 t u ≡ 0)
    → ((t u : ℕ) → t ≤ m → u ≤ m → get_or pos u 0 ≤ get_or pos t 0 → Rows code work 128 t u ≡ 0)
    → Formed (scalars M) (steps pos m) (drafted M code work pos m out)
formed_draft M code work pos m out order off dif = record {
  steady = m;
  steady_in = omega arith;
  steady_pos = refl;
  others = λ t l n. order.cells t (omega arith);
  off_later = λ t u l b q. up_is_zero M (off t u (omega arith) (omega arith) q);
  dif_later = λ t u l b q. up_is_zero M (dif t u (omega arith) (omega arith) q);
}
