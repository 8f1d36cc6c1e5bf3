use Rattle.std.proofs.Common.{◌≡◌, drop, map}
use Rattle.ap_list.specs.Lists.{all_true}
use Rattle.ap_world.specs.Recursion.{has_no_call}
use Rattle.ap_terminate.proofs.calls.+seeking.Given as goal

-- those that are left decide
abbrev pub invariant-have_no_call-loop-t : goal.invariant-have_no_call-loop-t
invariant-have_no_call-loop-t l = all_true (map (has_no_call l.name) (drop l.t-index l.ts)) ≡ all_true (map (has_no_call l.name) l.ts)
