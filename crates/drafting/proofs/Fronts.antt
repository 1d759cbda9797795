-- Drafts are laid out in the first 512 of the strips that are lent: what they mean there, they mean in the strips.
use Rattle.std.proofs.Common.{◌≡◌, ℕ, ◌+◌, ◌<◌, ◌≤◌, List, sym, ◌∙◌, arith}
use Rattle.diagram.specs.Diagram.{Assignment}
use Rattle.elimination.specs.Lift.{Element}
use Rattle.scale.specs.Model.{ScaleModel}
use Rattle.settling.specs.declared.draft.Draft.{Draft}
use Rattle.settling.proofs.Fronts.{Front, rule_front, formed_front}
use Rattle.strip.specs.Row.{Row}
use Rattle.drafting.specs.Drafts.{Blank}
use Rattle.drafting.specs.Meaning.{Drafts}

module _ {S : Type 0} (code : S → Row) (w v : List S) (front : Front code w v) where
  pub drafts_front : (M : ScaleModel) (d : Draft S) (n : ℕ) (f : Assignment → Element M) → Drafts M code w d n f → Drafts M code v d n f
  drafts_front M d n f s = record {
    over = s.over;
    formed = formed_front M code w v front d s.formed;
    same = λ a. sym (rule_front M code w v front d a) ∙ s.same a;
  }

  pub blank_front : (m : ℕ) → m < 128 → Blank code w m → Blank code v m
  blank_front m few s = record {
    off = λ h l. sym (front 0 h (omega arith)) ∙ s.off h l;
    dif = λ h l. sym (front 128 h (omega arith)) ∙ s.dif h l;
  }
