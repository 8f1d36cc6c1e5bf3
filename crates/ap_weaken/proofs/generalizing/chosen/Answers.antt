use Rattle.std.proofs.Common.{◌≡◌, true, sym, subst, rules}
use Rattle.ap_list.specs.Lists.{Each}
use Rattle.ap_world.specs.Sound.{known}
use Rattle.ap_world.specs.World.{function_of}
use Rattle.ap_induct.specs.Choosing.{calls_among}
use Rattle.ap_induct.proofs.Leading.{among_known}
use Rattle.ap_weaken.proofs.generalizing.chosen.Goals as goal

pub smallest-requires-clause-terms : goal.smallest-requires-clause-terms
smallest-requires-clause-terms g c =
    let is : c.as_slice.result.now ≡ calls_among c.args.literals.now = search rules in
    subst (Each (λ u. known (function_of c.args.w.now.entries) u ≡ true)) (sym is) (among_known (function_of c.args.w.now.entries) c.args.literals.now c.requires.terms)
