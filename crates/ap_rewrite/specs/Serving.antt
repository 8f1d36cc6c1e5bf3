-- What an entry that is found serves.
use Rattle.std.specs.Prelude.{◌≡◌, ℕ, ◌-◌, ◌<◌, ◌≤◌, Option, Some, None}
use Rattle.ap_term.specs.declared.term.Term.{Term}
use Rattle.ap_kernel.specs.declared.objects.Mode.{Mode}
use Rattle.ap_rewrite.specs.ByCost.{Fits}
use Rattle.ap_rewrite.specs.declared.known.Known.{Known}
use Rattle.ap_rewrite.specs.declared.known.Recalled.{Recalled}
use Rattle.ap_rewrite.specs.declared.known.Recalled.TheVariants as recalled

-- its answer where the steps are enough, and that they run out where they are too few
abbrev pub Charges : Known → ℕ → Recalled → Type 0
Charges k n (recalled.Known q m) = (k.cost ≤ n) × (q ≡ k.answer) × (m ≡ n - k.cost)
Charges k n recalled.Out = n < k.cost
Charges k n recalled.Unknown = ⊥

-- it is of this term and mode, and neither the levels nor the hypotheses around it can be told from those at which it
-- was kept
pub record Suits (k : Known) (d : ℕ) (o : Mode) (c : ℕ) (u : Term) : Type 0 where
  pub mode : k.answer.says.mode ≡ o
  pub lhs : k.answer.says.lhs ≡ u
  pub cost : k.cost ≤ d
  pub fits : Fits k.cost k.chain c

abbrev pub Serves : Option Known → ℕ → Mode → ℕ → Term → ℕ → Recalled → Type 0
Serves x d o c u n recalled.Unknown = Unit {0}
Serves None d o c u n r = ⊥
Serves (Some k) d o c u n r = Suits k d o c u × Charges k n r
