-- When a hypothesis is relieved by an equivalence, under pairs that may grow.
use Rattle.std.specs.Prelude.{◌≡◌, Bool, true, Some, slice_get}
use Rattle.ap_term.specs.declared.term.Term.{Term}
use Rattle.ap_term.specs.Matching.{Pairs, matched, Extends, is_bound}
use Rattle.ap_world.specs.Holding.{KnownPairs}
use Rattle.ap_world.specs.Facts.{Facts}
use Rattle.ap_world.specs.World.{Shown, function_of}
use Rattle.ap_kernel.specs.declared.objects.Ctx.{Ctx}
use Rattle.ap_kernel.specs.declared.objects.Equiv.{Equiv}
use Rattle.ap_kernel.specs.Standing.{Stands}
use Rattle.ap_kernel.specs.Applying.{LeadsToTrue}
use Rattle.ap_rewrite.specs.declared.facts.Matched.{Matched}
use Rattle.ap_rewrite.specs.declared.facts.Relieved.{Relieved}

-- the fact at a place has the sign, and a pattern matches its term beginning with these pairs
pub record MatchedAt (fs : Facts) (h : Term) (b : Bool) (s : Pairs) (m : Matched) : Type 0 where
  pub fact : Term
  pub at : slice_get fs m.place ≡ Some (fact, b)
  pub found : matched h fact s ≡ Some m.pairs.0

-- a hypothesis is relieved by an equivalence: it leads under the facts from the hypothesis's instance to 'T, and each
-- of the hypothesis's variables has a term. So it is relieved under more pairs too
pub record Relieves (w : Shown) (c : Ctx) (h : Term) (s : Pairs) (q : Equiv) : Type 0 where
  pub stands : Stands w q
  pub leads : LeadsToTrue c s h q.says
  pub bound : is_bound s h ≡ true

-- a hypothesis that is relieved under pairs of terms of the world, which are those it began with and more
pub record RelievedFrom (w : Shown) (c : Ctx) (h : Term) (s : Pairs) (r : Relieved) : Type 0 where
  pub relieves : Relieves w c h r.pairs.0 r.shown
  pub known : KnownPairs (function_of w.entries) r.pairs.0
  pub extends : Extends s r.pairs.0
