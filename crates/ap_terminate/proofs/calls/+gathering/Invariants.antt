use Rattle.std.proofs.Common.{◌≡◌, drop, map}
use Rattle.ap_list.specs.Lists.{joined}
use Rattle.ap_world.specs.Recursion.{calls_in}
use Rattle.ap_terminate.specs.Distinct.{with_distinct}
use Rattle.ap_terminate.proofs.calls.+gathering.Given as goal

-- what is there so far, and then the calls of the terms that are left
abbrev pub invariant-push_all_calls-loop-t : goal.invariant-push_all_calls-loop-t
invariant-push_all_calls-loop-t l = with_distinct l.out (joined (map (calls_in l.name) (drop l.t-index l.ts))) ≡ with_distinct l.initial.out (joined (map (calls_in l.name) l.ts))
