use Rattle.std.proofs.Common.{◌≡◌, ◌+◌, ◌*◌, [], drop}
use Rattle.ap_world.specs.Sound.{HasFunctions}
use Rattle.ap_world.specs.World.{function_of}
use Rattle.ap_events.specs.Books.{again_event}
use Rattle.ap_events.specs.Nested.{agains, all}
use Rattle.ap_events.proofs.Doing.{IsBacked, Left}
use Rattle.ap_events.proofs.second.+again.Given as goal

abbrev pub decreases-again_in : goal.decreases-again_in
decreases-again_in l = 3 * l.depth

abbrev pub decreases-again_each : goal.decreases-again_each
decreases-again_each l = 3 * l.depth + 1

abbrev pub decreases-again_all : goal.decreases-again_all
decreases-again_all l = 3 * l.depth + 2

-- those that are left are backed, and behind what is done they give what all of them give
abbrev pub invariant-again_each-loop-form : goal.invariant-again_each-loop-form
invariant-again_each-loop-form l = record {
  left : Left (agains (again_event l.earlier) l.depth) l.forms l.initial.w l.form-index l.w l.done;
  backed : IsBacked (all (agains (again_event l.earlier) l.depth) (drop l.form-index l.forms) l.w) l.w;
  functions : HasFunctions (function_of l.w.entries);
  alone : l.done.drops ≡ [];
}
