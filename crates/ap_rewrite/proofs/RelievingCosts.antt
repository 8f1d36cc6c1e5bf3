-- What relieving hypotheses costs doesn't depend on the steps that are left.
use Rattle.std.proofs.Common.{true, nat_lt, Option, None, Some, List, [], ◌∷◌}
use Rattle.ap_term.specs.declared.term.Term.{Term}
use Rattle.ap_term.specs.Terms.{subst_of}
use Rattle.ap_world.specs.Shapes.{is_constant}
use Rattle.ap_kernel.specs.declared.objects.Mode.{Mode}
use Rattle.ap_kernel.specs.declared.objects.Mode.TheVariants.{Iff}
use Rattle.ap_term.specs.Metered.{By, known}
use Rattle.ap_term.specs.Matching.{Pairs, is_bound}
use Rattle.ap_rewrite.specs.Costs.{Metered}
use Rattle.ap_rewrite.specs.Settings.{Place, Inner, relieving}
use Rattle.ap_rewrite.specs.Relieving.{most_chained, if_so, relieve_one, then_more, relieve}
use Rattle.ap_rewrite.proofs.Costs.{metered_known, metered_after, metered_cond}

-- what the level below costs doesn't
abbrev pub AllMetered : Inner → Type 0
AllMetered r = (o : Mode) (p : Place) (u : Term) → Metered (r o p u)

module _ (r : Inner) (mr : AllMetered r) (p : Place) where
  metered_one : (h : Term) (s : Pairs) → Metered (relieve_one r p h s)
  metered_one h s = metered_cond (is_bound s h) _ _
      (metered_after (r Iff (relieving p) (subst_of s h)) (λ h'. known (if_so (is_constant true h') s)) (mr Iff (relieving p) (subst_of s h)) (λ h'. metered_known _))
      (metered_known _)

  metered_more : (o : Option Pairs) (k : Pairs → By (Option Pairs)) → ((s : Pairs) → Metered (k s)) → Metered (then_more o k)
  metered_more None k mk = metered_known None
  metered_more (Some s) k mk = mk s

  pub metered_relieve : (hs : List Term) (s : Pairs) → Metered (relieve r p hs s)
  metered_relieve [] s = metered_known (Some s)
  metered_relieve (h ∷ hs) s = metered_cond (nat_lt p.chain most_chained) _ _
      (metered_after (relieve_one r p h s) (λ o. then_more o (relieve r p hs)) (metered_one h s) (λ o. metered_more o (relieve r p hs) (metered_relieve hs)))
      (metered_known None)
