-- The world that a book begins with.
use Rattle.std.proofs.Common.{◌≡◌, map, subst, sym}
use Rattle.ap_world.specs.declared.entry.Entry.TheVariants as entry
use Rattle.ap_world.specs.Ground.{ground_functions, ground_rules}
use Rattle.ap_world.specs.Sound.{HasFunctions}
use Rattle.ap_world.specs.World.{Shown, function_of}
use Rattle.ap_world.proofs.Adding.{has_functions-more}
use Rattle.ap_ground.proofs.There.{has_functions}
use Rattle.ap_session.specs.Working.{start}

-- it has the functions of the ground world
pub start_has : (w : Shown) → w ≡ start → HasFunctions (function_of w.entries)
unfolding start
start_has w is =
    subst (λ v. HasFunctions (function_of v.entries)) (sym is)
    (has_functions-more (map entry.Function ground_functions) (map entry.Theorem ground_rules) has_functions)
