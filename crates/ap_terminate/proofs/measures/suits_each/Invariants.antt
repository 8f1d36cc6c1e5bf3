use Rattle.std.proofs.Common.{◌≡◌, drop, map}
use Rattle.ap_list.specs.Lists.{all_true}
use Rattle.ap_world.specs.Recursion.{suits}
use Rattle.ap_terminate.proofs.measures.suits_each.Given as goal

-- those that are left decide
abbrev pub invariant-loop-case : goal.invariant-loop-case
invariant-loop-case l = all_true (map (suits l.formals l.x) (drop l.case-index l.cases)) ≡ all_true (map (suits l.formals l.x) l.cases)
