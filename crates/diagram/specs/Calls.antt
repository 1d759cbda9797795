-- What is proved of the diagrams that weighing, tying and laying make. Assumes nothing.
use Rattle.std.specs.Prelude.{◌≡◌, ℕ, ◌<◌, Bool, ◌≢◌, ◌⊎◌}
use Rattle.linear.specs.Field.{Field}
use Rattle.diagram.specs.Canonical.{Canonical}
use Rattle.diagram.specs.Diagram.{Assignment, turn, Diagram, Formed, rule}
use Rattle.diagram.specs.Passes.{rowed, Ties, along, Embeds}

-- Weighing by a code other than 0: the outlet multiplied, with the same cells, is canonical, and its rule is the multiple.
abbrev pub Weighed : Type 0 → Type 0
Weighed K = (F : Field K) (n : ℕ) (C : Diagram K) (c : K) → c ≢ F.zero → Canonical F n C
    → Canonical F n (rowed C C.off C.dif (λ t. F.times c (C.out t)))
    × ((a : Assignment) → rule F n (rowed C C.off C.dif (λ t. F.times c (C.out t))) a ≡ F.times c (rule F n C a))

-- Tying position q to v: the diagram with the rows off and dif of `Ties` has the rule that reads v there.
abbrev pub Tied : Type 0 → Type 0
Tied K = (F : Field K) (n : ℕ) (D : Diagram K) (q : ℕ) (v : Bool) (off dif : ℕ → ℕ → K) → Formed F n D → q < n → Ties F D q v off dif
    → Formed F n (rowed D off dif D.out) × ((a : Assignment) → rule F n (rowed D off dif D.out) a ≡ rule F n D (turn q v a))

-- the place t is where one of E's places stands
abbrev pub Placed : {K : Type 0} → Diagram K → (ℕ → ℕ) → ℕ → Type 0
Placed E ρ t = (s : ℕ) × (s < E.places) × (ρ s ≡ t)

-- Laying: where two diagrams stand in one, with one steady place, and it has no other places, it is formed.
abbrev pub LaidFormed : Type 0 → Type 0
LaidFormed K = (F : Field K) (n : ℕ) (P Q D : Diagram K) (ρ σ : ℕ → ℕ) (fP : Formed F n P) (fQ : Formed F n Q) → Embeds F P D ρ → Embeds F Q D σ
    → ρ fP.steady ≡ σ fQ.steady → ((t : ℕ) → t < D.places → Placed P ρ t ⊎ Placed Q σ t) → Formed F n D

-- If its outlet is the first one's and c times the second one's, its rule is the sum of the first rule and c times the second.
abbrev pub Laid : Type 0 → Type 0
Laid K = (F : Field K) (n : ℕ) (P Q D : Diagram K) (ρ σ : ℕ → ℕ) (c : K) → Formed F n P → Formed F n Q → Formed F n D → Embeds F P D ρ → Embeds F Q D σ
    → ((u : ℕ) → u < D.places → D.out u ≡ F.plus (along F P.places ρ P.out u) (F.times c (along F Q.places σ Q.out u)))
    → (a : Assignment) → rule F n D a ≡ F.plus (rule F n P a) (F.times c (rule F n Q a))

-- A diagram put elsewhere: where it stands in another that has no other places, that one is formed, and with its outlet it has its rule.
abbrev pub MovedFormed : Type 0 → Type 0
MovedFormed K = (F : Field K) (n : ℕ) (P D : Diagram K) (ρ : ℕ → ℕ) → Formed F n P → Embeds F P D ρ → ((t : ℕ) → t < D.places → Placed P ρ t) → Formed F n D

abbrev pub Moved : Type 0 → Type 0
Moved K = (F : Field K) (n : ℕ) (P D : Diagram K) (ρ : ℕ → ℕ) → Formed F n P → Formed F n D → Embeds F P D ρ
    → ((u : ℕ) → u < D.places → D.out u ≡ along F P.places ρ P.out u) → (a : Assignment) → rule F n D a ≡ rule F n P a
