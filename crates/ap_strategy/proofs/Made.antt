-- The clauses that a later process makes are terms of the world, and few.
use Rattle.std.proofs.Common.{◌≡◌, ◌≤◌, ◌<◌, ◌^◌, List, length, Option, Some, None, IfSome, sym, arith}
use Rattle.ap_list.specs.Lists.{Each}
use Rattle.ap_term.specs.declared.term.Clause.{Clause}
use Rattle.ap_world.specs.Sound.{Sound, HasFunctions}
use Rattle.ap_world.specs.World.{Shown}
use Rattle.ap_walk.specs.declared.act.Process.{Process}
use Rattle.ap_kernel.specs.Reductions.{KnownClause}
use Rattle.ap_strategy.specs.Goals.{Goal, defs_of}
use Rattle.ap_strategy.specs.Laws.{kernel_ground}
use Rattle.ap_strategy.specs.Later.{Makes, later_makes}
use Rattle.ap_strategy.specs.Steps.{later}
use Rattle.ap_strategy.proofs.Grounded.{sound_lent}

module _ (g : Goal) (functions : HasFunctions (defs_of g.plan)) (w : Shown) (lent : w ≡ g.plan.world) (sound : Sound w.entries) (k : KnownClause (defs_of g.plan) g.clause) where
  makes : (p : Process × List Clause) → later g ≡ Some p → Makes (defs_of g.plan) g.clause p.1
  makes p e = later_makes g (kernel_ground (defs_of g.plan) functions) functions (sound_lent w g.plan.world lent sound) k p e

  pub made_known : (o : Option (Process × List Clause)) → o ≡ later g → IfSome o (λ (p : Process × List Clause). Each (KnownClause (defs_of g.plan)) p.1)
  made_known None e = tt
  made_known (Some p) e = (makes p (sym e)).follows.goals

  pub made_few : (o : Option (Process × List Clause)) → o ≡ later g → IfSome o (λ (p : Process × List Clause). length p.1 < 2 ^ 32)
  made_few None e = tt
  made_few (Some p) e = let few : length p.1 ≤ 2 = (makes p (sym e)).few in omega arith
