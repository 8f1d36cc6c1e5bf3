use Rattle.std.proofs.Common.{◌≡◌, ◌≤◌, ◌+◌, ◌*◌, []}
use Rattle.ap_world.specs.Sound.{HasFunctions}
use Rattle.ap_world.specs.World.{function_of}
use Rattle.ap_events.specs.Books.{first_event, again_event}
use Rattle.ap_events.specs.Nested.{firsts}
use Rattle.ap_events.proofs.Doing.{Left}
use Rattle.ap_events.proofs.first.+first.Given as goal

abbrev pub decreases-first_in : goal.decreases-first_in
decreases-first_in g l = 4 * l.depth

abbrev pub decreases-first_each : goal.decreases-first_each
decreases-first_each g l = 4 * l.depth + 1

abbrev pub decreases-first_all : goal.decreases-first_all
decreases-first_all g l = 4 * l.depth + 2

abbrev pub decreases-first_closed : goal.decreases-first_closed
decreases-first_closed g l = 4 * l.depth + 3

-- behind what is done, those that are left give what all of them give
abbrev pub invariant-first_each-loop-form : goal.invariant-first_each-loop-form
invariant-first_each-loop-form g l = record {
  left : Left (firsts (first_event l.crew.limits.now l.earlier) (again_event l.earlier) l.depth) l.forms l.initial.w l.form-index l.w l.done;
  functions : HasFunctions (function_of l.w.entries);
  alone : l.crew.workers ≤ 1 → l.done.drops ≡ [];
}
