use Rattle.std.proofs.Common.{◌≡◌, drop, map}
use Rattle.ap_list.specs.Lists.{all_true}
use Rattle.ap_world.specs.Sound.{known}
use Rattle.ap_world.specs.World.{function_of}
use Rattle.ap_tests_theorems.proofs.clauses.are_known.Given as goal

-- those that are left decide
abbrev pub invariant-loop-t : goal.invariant-loop-t
invariant-loop-t l =
    all_true (map (known (function_of l.w.entries)) (drop l.t-index l.ts)) ≡ all_true (map (known (function_of l.w.entries)) l.ts)
