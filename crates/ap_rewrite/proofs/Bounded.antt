-- The polynomials that linear arithmetic begins with speak of the world's terms, and so those that it lists hold.
use Rattle.std.proofs.Common.{◌≡◌, ℕ, Bool, true, List, [], ◌∷◌, ◌++◌, take, Some, sym, subst}
use Rattle.ap_list.specs.Lists.{Each}
use Rattle.ap_term.specs.declared.term.Term.{Term}
use Rattle.ap_world.specs.declared.theory.Theory.{Theory}
use Rattle.ap_world.specs.Meaning.{Defs}
use Rattle.ap_world.specs.Sound.{known, Sound}
use Rattle.ap_world.specs.World.{Shown, function_of, are_distinct}
use Rattle.ap_world.specs.Facts.{Facts, KnownFacts, FactsHold}
use Rattle.ap_world.proofs.TotalMeaning.{models}
use Rattle.ap_poly.specs.Polynomials.{Polynomial}
use Rattle.ap_poly.specs.Literals.{of_literal}
use Rattle.ap_poly.specs.Holding.{PolyHolds}
use Rattle.ap_poly.specs.Bounds.{PolyKnown, first_atoms}
use Rattle.ap_poly.proofs.AtomsKnown.{literals_known, atoms_known}
use Rattle.ap_kernel.specs.declared.objects.Ctx.{Ctx}
use Rattle.ap_kernel.specs.Standing.{DefinesNot}
use Rattle.ap_kernel.specs.Linear.{PolysHold}
use Rattle.ap_kernel.proofs.Reduced.{each_append, each_take}
use Rattle.ap_rewrite.specs.InWorld.{world_setting}
use Rattle.ap_rewrite.specs.Arithmetic.{arithmetic_in, SoundArithmetic}
use Rattle.ap_rewrite.specs.Linear.{most_polys, of_facts, bounds, given, with_rules}
use Rattle.ap_rewrite.specs.Rewriting.{rewrite_to}
use Rattle.ap_rewrite.specs.Settings.{Place}
use Rattle.ap_rewrite.proofs.InWorldStands.{sound_setting}
use Rattle.ap_rewrite.proofs.LinearStands.{listed_hold}
use Rattle.ap_rewrite.proofs.RewritingStands.{levels_stand}

module _ (w : Shown) (h : Theory) (us : List Term) where
  facts_known : (fs : Facts) → KnownFacts (function_of w.entries) fs → Each (PolyKnown (function_of w.entries)) (of_facts (world_setting w h us) fs)
  facts_known [] ks = tt
  facts_known (f ∷ fs) ks = each_append (PolyKnown (function_of w.entries)) (of_literal f.0 f.1) (of_facts (world_setting w h us) fs) (literals_known (function_of w.entries) f.0 f.1 ks.0) (facts_known fs ks.1)

  pub atoms_here : (fs : Facts) (u : Term) (s : Bool) → KnownFacts (function_of w.entries) fs → known (function_of w.entries) u ≡ true
      → Each (λ x. known (function_of w.entries) x ≡ true) (first_atoms (given (world_setting w h us) fs u s))
  atoms_here fs u s ks k = atoms_known (function_of w.entries) (given (world_setting w h us) fs u s)
      (each_append (PolyKnown (function_of w.entries)) (of_literal u s) (of_facts (world_setting w h us) fs) (literals_known (function_of w.entries) u s k) (facts_known fs ks))

  -- what is listed holds wherever the facts hold and the literal has the sign
  pub all_listed : Sound w.entries → DefinesNot (function_of w.entries) → are_distinct w.entries ≡ true → SoundArithmetic (arithmetic_in w h) (function_of w.entries)
      → (d : ℕ) (p : Place) (c : Ctx) → p.facts ≡ c.0 → KnownFacts (function_of w.entries) p.facts → (u : Term) (s : Bool) → known (function_of w.entries) u ≡ true
      → (n : ℕ) (qs : List Polynomial) (m : ℕ)
      → with_rules (world_setting w h us) (rewrite_to (world_setting w h us) d) p (arithmetic_in w h).rules (first_atoms (given (world_setting w h us) p.facts u s))
      (given (world_setting w h us) p.facts u s ++ bounds (world_setting w h us) p.facts (first_atoms (given (world_setting w h us) p.facts u s))) n ≡ Some (qs, m)
      → PolysHold (function_of w.entries) c u s qs
  all_listed sound ground distinct right d p c at fk u s k n qs m is e hs =
      let S = world_setting w h us in
      let H = sound_setting w h us (arithmetic_in w h) sound ground distinct right in
      let (A, ms) = models (function_of w.entries) sound.total in
      listed_hold S H A ms (rewrite_to S d) (levels_stand S H A ms d) p fk u s k n qs m is e (subst (λ fs. FactsHold (function_of w.entries) e fs) (sym at) hs)

-- the first of those that hold
pub first_hold : (D : Defs) (c : Ctx) (u : Term) (s : Bool) (ps : List Polynomial) → PolysHold D c u s ps → PolysHold D c u s (take most_polys ps)
first_hold D c u s ps h e hs us = each_take (PolyHolds D e) most_polys ps (h e hs us)
