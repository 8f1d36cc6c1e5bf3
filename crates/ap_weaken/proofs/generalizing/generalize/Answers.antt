use Rattle.std.proofs.Common.{◌≡◌, Some, rules}
use Rattle.ap_world.specs.World.{function_of}
use Rattle.ap_world.proofs.Grounded.{has_not}
use Rattle.ap_weaken.specs.Generalize.{chosen}
use Rattle.ap_weaken.proofs.Chosen.{chosen_known}
use Rattle.ap_weaken.proofs.generalizing.generalize.Goals as goal

pub chosen-requires-clause-ground : goal.chosen-requires-clause-ground
chosen-requires-clause-ground g c = has_not (function_of c.args.w.now.entries) c.requires.functions

pub generalised_at-requires-clause-term : goal.generalised_at-requires-clause-term
generalised_at-requires-clause-term g c =
    let is : chosen c.args.w.now c.args.c.now.0 ≡ Some c.in-Some.t = search rules in
    chosen_known (function_of c.args.w.now.entries) c.args.w.now c.args.c.now.0 c.in-Some.t c.requires.clause is
