use Rattle.std.proofs.Common.{◌≡◌, drop, map}
use Rattle.ap_list.specs.Lists.{all_true}
use Rattle.ap_kernel.specs.Opening.{is_quoted}
use Rattle.ap_kernel.proofs.opening.are_quoted.Given as goal

abbrev pub invariant-loop-t : goal.invariant-loop-t
invariant-loop-t l = all_true (map is_quoted (drop l.t-index l.ts)) ≡ all_true (map is_quoted l.ts)
