use Rattle.std.proofs.Common.{◌≡◌, drop, map, zip}
use Rattle.ap_list.specs.Lists.{all_true}
use Rattle.ap_world.specs.Recursion.{is_changed}
use Rattle.ap_terminate.proofs.measures.each_changes.Given as goal

-- those that are left decide
abbrev pub invariant-loop-call : goal.invariant-loop-call
invariant-loop-call l = all_true (map (λ c. is_changed l.x (zip l.formals c)) (drop l.call-index l.calls)) ≡ all_true (map (λ c. is_changed l.x (zip l.formals c)) l.calls)
