use Rattle.std.proofs.Common.{◌≡◌, length}
use Rattle.ap_list.specs.Lists.{is_distinct}
use Rattle.ap_term.specs.Equal.{term_eq}
use Rattle.ap_world.proofs.recognisers.are_distinct.Given as goal

-- what is left tells
abbrev pub invariant-loop-left : goal.invariant-loop-left
invariant-loop-left l = is_distinct term_eq l.left ≡ is_distinct term_eq l.ts

abbrev pub decreases-loop-left : goal.decreases-loop-left
decreases-loop-left l = length l.left
