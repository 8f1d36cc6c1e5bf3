-- The cost of linear arithmetic within rewriting doesn't depend on the steps that are left.
use Rattle.std.proofs.Common.{Bool, true, false, Option, None, Some, List, [], ◌∷◌, ◌++◌}
use Rattle.ap_value.specs.declared.symbol.Symbol.{Symbol}
use Rattle.ap_term.specs.declared.term.Term.{Term, Call}
use Rattle.ap_world.specs.declared.primitive.Primitive.{Primitive as Prim}
use Rattle.ap_world.specs.declared.primitive.Primitive.TheVariants as prim
use Rattle.ap_world.specs.Primitives.{prim_of}
use Rattle.ap_term.specs.Metered.{By, after}
use Rattle.ap_term.specs.Matching.{Pairs, matched}
use Rattle.ap_kernel.specs.Linear.{less_of}
use Rattle.ap_rewrite.specs.Settings.{Setting, Place, Inner}
use Rattle.ap_rewrite.specs.Relieving.{relieve}
use Rattle.ap_rewrite.specs.Costs.{Metered}
use Rattle.ap_poly.specs.Polynomials.{Polynomial}
use Rattle.ap_rules.specs.declared.linear.LinearRule.{LinearRule}
use Rattle.ap_rewrite.specs.Linear.{bounds, given, at_match, at_atoms, with_rules, refuted, or_refuted, then_refuted, if_refuted, by_pair, by_arithmetic}
use Rattle.ap_rewrite.proofs.Costs.{metered_known, metered_after, metered_cond}
use Rattle.ap_rewrite.proofs.RelievingCosts.{AllMetered, metered_relieve}

module _ (S : Setting) (r : Inner) (mr : AllMetered r) (p : Place) where
  at_match_metered : (g : LinearRule) (ps : List Polynomial) (o : Option Pairs) → Metered (at_match S r p g ps o)
  at_match_metered g ps None = metered_known ps
  at_match_metered g ps (Some s) = metered_after (relieve r p g.hyps s) _ (metered_relieve r mr p g.hyps s) (λ o. metered_known _)

  at_atoms_metered : (g : LinearRule) (xs : List Term) (ps : List Polynomial) → Metered (at_atoms S r p g xs ps)
  at_atoms_metered g [] ps = metered_known ps
  at_atoms_metered g (x ∷ xs) ps = metered_cond _ _ _ (metered_known ps)
      (metered_after (at_match S r p g ps (matched g.trigger x [])) (at_atoms S r p g xs) (at_match_metered g ps (matched g.trigger x [])) (at_atoms_metered g xs))

  with_rules_metered : (gs : List LinearRule) (xs : List Term) (ps : List Polynomial) → Metered (with_rules S r p gs xs ps)
  with_rules_metered [] xs ps = metered_known ps
  with_rules_metered (g ∷ gs) xs ps = metered_after (at_atoms S r p g xs ps) (with_rules S r p gs xs) (at_atoms_metered g xs ps) (with_rules_metered gs xs)

  refuted_metered : (u : Term) (s : Bool) → Metered (refuted S r p u s)
  refuted_metered u s = metered_after (with_rules S r p S.arithmetic.rules (S.arithmetic.atoms_of (given S p.facts u s)) (given S p.facts u s ++ bounds S p.facts (S.arithmetic.atoms_of (given S p.facts u s)))) _
      (with_rules_metered S.arithmetic.rules _ _) (λ qs. metered_known _)

  or_refuted_metered : (u : Term) (s b : Bool) → Metered (or_refuted u s b)
  or_refuted_metered u s true = metered_known _
  or_refuted_metered u s false = metered_known None

  then_refuted_metered : (b : Bool) (k : By (Option Term)) → Metered k → Metered (then_refuted b k)
  then_refuted_metered true k mk = metered_known _
  then_refuted_metered false k mk = mk

  else_refuted : (u : Term) → Metered (λ n. after (refuted S r p u true n) (or_refuted u true))
  else_refuted u = metered_after (refuted S r p u true) (or_refuted u true) (refuted_metered u true) (or_refuted_metered u true)

  if_refuted_metered : (b : Bool) (k : By Bool) → Metered k → Metered (if_refuted b k)
  if_refuted_metered true k mk = mk
  if_refuted_metered false k mk = metered_known false

  pair_metered : (u : Term) (o : Option Prim) (a b : Term) → Metered (by_pair S r p u o a b)
  pair_metered u (Some prim.Less) a b = metered_after (refuted S r p u false) _ (refuted_metered u false) (λ c. then_refuted_metered c _ (else_refuted u))
  pair_metered u (Some prim.Equal) a b = metered_cond _ _ _
      (metered_after (λ n. after (refuted S r p (less_of a b) true n) (λ c. if_refuted c (refuted S r p (less_of b a) true))) _
      (metered_after (refuted S r p (less_of a b) true) _ (refuted_metered (less_of a b) true) (λ c. if_refuted_metered c _ (refuted_metered (less_of b a) true)))
      (λ c. then_refuted_metered c _ (else_refuted u)))
      (metered_known None)
  pair_metered u o a b = metered_known None

  pub arithmetic_metered : (f : Symbol) (us : List Term) → Metered (by_arithmetic S r p f us)
  arithmetic_metered f [] = metered_known None
  arithmetic_metered f (a ∷ []) = metered_known None
  arithmetic_metered f (a ∷ b ∷ []) = pair_metered (Call f (a ∷ b ∷ [])) (prim_of f) a b
  arithmetic_metered f (a ∷ b ∷ c ∷ us) = metered_known None
