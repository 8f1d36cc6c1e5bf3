use Rattle.std.proofs.Common.{◌≡◌, drop, map}
use Rattle.ap_list.specs.Lists.{in_turn}
use Rattle.ap_term.specs.Terms.{vars_after}
use Rattle.ap_term.proofs.instance.+collecting.Given as goal

-- the rest's variables after those so far are those of all
abbrev pub invariant-add_all_vars-loop-t : goal.invariant-add_all_vars-loop-t
invariant-add_all_vars-loop-t l = in_turn (map vars_after (drop l.t-index l.ts)) l.seen ≡ in_turn (map vars_after l.ts) l.fn.seen
