use Rattle.std.proofs.Common.{◌≡◌, drop, map}
use Rattle.ap_list.specs.Lists.{all_true}
use Rattle.ap_world.specs.Sound.{known}
use Rattle.ap_world.specs.World.{function_of}
use Rattle.ap_eval.proofs.knowing.+knowing.Given as goal

-- all are known where those that are left are
abbrev pub invariant-are_known-loop-term : goal.invariant-are_known-loop-term
invariant-are_known-loop-term l = all_true (map (known (function_of l.w.entries)) (drop l.term-index l.terms)) ≡ all_true (map (known (function_of l.w.entries)) l.terms)
