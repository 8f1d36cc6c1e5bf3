use Rattle.std.proofs.Common.{map, subst, sym}
use Rattle.ap_world.specs.declared.entry.Entry.TheVariants as entry
use Rattle.ap_world.specs.Ground.{ground_functions, ground_rules}
use Rattle.ap_world.proofs.Adding.{has_functions-more}
use Rattle.ap_ground.proofs.There.{has_functions}
use Rattle.ap_ground.proofs.laws.ground_has_its_functions.Goals as goal

pub returns : goal.returns
returns c = has_functions-more (map entry.Function ground_functions) (map entry.Theorem ground_rules) has_functions
