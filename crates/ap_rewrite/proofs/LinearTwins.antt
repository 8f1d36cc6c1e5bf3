-- Linear arithmetic answers alike where what is below it does.
use Rattle.std.proofs.Common.{ℕ, suc, Bool, true, false, Option, None, Some, List, [], ◌∷◌, ◌++◌}
use Rattle.ap_value.specs.declared.symbol.Symbol.{Symbol}
use Rattle.ap_term.specs.declared.term.Term.{Term, Call}
use Rattle.ap_world.specs.declared.primitive.Primitive.{Primitive as Prim}
use Rattle.ap_world.specs.declared.primitive.Primitive.TheVariants as prim
use Rattle.ap_world.specs.Primitives.{prim_of}
use Rattle.ap_term.specs.Metered.{By, known}
use Rattle.ap_term.specs.Matching.{Pairs, matched}
use Rattle.ap_kernel.specs.Linear.{less_of}
use Rattle.ap_poly.specs.Polynomials.{Polynomial}
use Rattle.ap_rules.specs.declared.linear.LinearRule.{LinearRule}
use Rattle.ap_rewrite.specs.Settings.{Setting, Place, Inner}
use Rattle.ap_rewrite.specs.ByCost.{at_chain, Fits}
use Rattle.ap_rewrite.specs.Linear.{bounds, given, with_instance, at_match, at_atoms, with_rules, refuted, or_refuted, then_refuted, if_refuted, by_truth, by_orders, by_pair, by_arithmetic}
use Rattle.ap_rewrite.proofs.Twins.{Twin, twin_known, twin_after, twin_cond}
use Rattle.ap_rewrite.proofs.RelievingTwins.{Alike, twin_relieve}

module _ (S : Setting) (r s : Inner) (N : ℕ) (w : Alike N r s) (p : Place) (c : ℕ) (l : Fits (suc N) p.chain c) where
  at_match_twin : (g : LinearRule) (ps : List Polynomial) (o : Option Pairs) → Twin N (at_match S r p g ps o) (at_match S s (at_chain c p) g ps o)
  at_match_twin g ps None = twin_known N (ps)
  at_match_twin g ps (Some q) = twin_after N _ _ (λ o. known (with_instance S g ps o)) (λ o. known (with_instance S g ps o)) (twin_relieve r s N w p c l g.hyps q) (λ o. twin_known N ((with_instance S g ps o)))

  at_atoms_twin : (g : LinearRule) (xs : List Term) (ps : List Polynomial) → Twin N (at_atoms S r p g xs ps) (at_atoms S s (at_chain c p) g xs ps)
  at_atoms_twin g [] ps = twin_known N (ps)
  at_atoms_twin g (x ∷ xs) ps = twin_cond N _ _ _ _ _ (twin_known N (ps))
      (twin_after N (at_match S r p g ps (matched g.trigger x [])) (at_match S s (at_chain c p) g ps (matched g.trigger x [])) (at_atoms S r p g xs) (at_atoms S s (at_chain c p) g xs)
      (at_match_twin g ps (matched g.trigger x [])) (at_atoms_twin g xs))

  with_rules_twin : (gs : List LinearRule) (xs : List Term) (ps : List Polynomial) → Twin N (with_rules S r p gs xs ps) (with_rules S s (at_chain c p) gs xs ps)
  with_rules_twin [] xs ps = twin_known N (ps)
  with_rules_twin (g ∷ gs) xs ps = twin_after N (at_atoms S r p g xs ps) (at_atoms S s (at_chain c p) g xs ps) (with_rules S r p gs xs) (with_rules S s (at_chain c p) gs xs) (at_atoms_twin g xs ps) (with_rules_twin gs xs)

  refuted_twin : (u : Term) (b : Bool) → Twin N (refuted S r p u b) (refuted S s (at_chain c p) u b)
  refuted_twin u b =
      let ps = given S p.facts u b in
      let xs = S.arithmetic.atoms_of ps in
      twin_after N (with_rules S r p S.arithmetic.rules xs (ps ++ bounds S p.facts xs)) (with_rules S s (at_chain c p) S.arithmetic.rules xs (ps ++ bounds S p.facts xs)) _ _
      (with_rules_twin S.arithmetic.rules xs (ps ++ bounds S p.facts xs)) (λ qs. twin_known N _)

  then_twin : (b : Bool) (k j : By (Option Term)) → Twin N k j → Twin N (then_refuted b k) (then_refuted b j)
  then_twin true k j v = twin_known N _
  then_twin false k j v = v

  or_twin : (u : Term) (a b : Bool) → Twin N (or_refuted u a b) (or_refuted u a b)
  or_twin u a true = twin_known N _
  or_twin u a false = twin_known N None

  truth_twin : (u : Term) → Twin N (by_truth S r p u) (by_truth S s (at_chain c p) u)
  truth_twin u = twin_after N (refuted S r p u true) (refuted S s (at_chain c p) u true) (or_refuted u true) (or_refuted u true) (refuted_twin u true) (λ b. or_twin u true b)

  if_twin : (b : Bool) (k j : By Bool) → Twin N k j → Twin N (if_refuted b k) (if_refuted b j)
  if_twin true k j v = v
  if_twin false k j v = twin_known N (false)

  orders_twin : (a b : Term) → Twin N (by_orders S r p a b) (by_orders S s (at_chain c p) a b)
  orders_twin a b = twin_after N (refuted S r p (less_of a b) true) (refuted S s (at_chain c p) (less_of a b) true)
      (λ d. if_refuted d (refuted S r p (less_of b a) true)) (λ d. if_refuted d (refuted S s (at_chain c p) (less_of b a) true))
      (refuted_twin (less_of a b) true) (λ d. if_twin d _ _ (refuted_twin (less_of b a) true))

  pair_twin : (u : Term) (o : Option Prim) (a b : Term) → Twin N (by_pair S r p u o a b) (by_pair S s (at_chain c p) u o a b)
  pair_twin u (Some prim.Less) a b = twin_after N (refuted S r p u false) (refuted S s (at_chain c p) u false)
      (λ d. then_refuted d (by_truth S r p u)) (λ d. then_refuted d (by_truth S s (at_chain c p) u)) (refuted_twin u false) (λ d. then_twin d _ _ (truth_twin u))
  pair_twin u (Some prim.Equal) a b = twin_cond N _ _ _ _ _
      (twin_after N (by_orders S r p a b) (by_orders S s (at_chain c p) a b) (λ d. then_refuted d (by_truth S r p u)) (λ d. then_refuted d (by_truth S s (at_chain c p) u))
      (orders_twin a b) (λ d. then_twin d _ _ (truth_twin u)))
      (twin_known N (None))
  pair_twin u o a b = twin_known N (None)

  pub arithmetic_twin : (f : Symbol) (us : List Term) → Twin N (by_arithmetic S r p f us) (by_arithmetic S s (at_chain c p) f us)
  arithmetic_twin f [] = twin_known N (None)
  arithmetic_twin f (a ∷ []) = twin_known N (None)
  arithmetic_twin f (a ∷ b ∷ []) = pair_twin (Call f (a ∷ b ∷ [])) (prim_of f) a b
  arithmetic_twin f (a ∷ b ∷ d ∷ us) = twin_known N (None)
