use Rattle.std.proofs.Common.{◌≡◌, [], subst, rules}
use Rattle.ap_world.specs.World.{function_of}
use Rattle.ap_kernel.specs.Masks.{MaskHolds}
use Rattle.ap_weaken.proofs.generalizing.mask_of.Goals as goal

pub returns-clause-holds : goal.returns-clause-holds
returns-clause-holds g c =
    let none : c.in_ok-no_facts.no_facts.0 ≡ [] = search rules in
    subst (λ fs. MaskHolds (function_of c.args.w.now.entries) fs c.args.t.now c.in_ok-mask.mask) none c.in_ok-mask.ensures.holds
