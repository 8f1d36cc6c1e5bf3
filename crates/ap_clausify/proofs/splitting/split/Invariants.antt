use Rattle.std.proofs.Common.{◌≡◌, ◌+◌, ◌*◌, length}
use Rattle.ap_clausify.specs.Splitting.{split_of, settled_left}
use Rattle.ap_clausify.specs.Frames.{Linked, IsAtHand, at_hand, origin, outcome, comes, weight}
use Rattle.ap_clausify.proofs.splitting.split.Given as goal

-- what comes of the first clause that waits is what comes of the clause
abbrev pub invariant-loop-next : goal.invariant-loop-next
invariant-loop-next l = record {
  linked : Linked l.w l.state.frames (at_hand l.state.task);
  holds : IsAtHand l.w l.state.task;
  origin : origin l.state.frames (at_hand l.state.task) ≡ l.fn.c;
  outcome : outcome l.state.frames (comes l.state.task l.steps.left) ≡ settled_left (split_of l.fn.steps.left l.fn.c);
}

abbrev pub decreases-loop-next : goal.decreases-loop-next
decreases-loop-next l = 2 * l.steps.left + (length l.state.frames + weight l.state.task)
