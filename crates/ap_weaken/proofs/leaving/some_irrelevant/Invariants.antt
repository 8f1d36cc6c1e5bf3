use Rattle.std.proofs.Common.{◌≡◌, drop, map}
use Rattle.ap_kernel.specs.Solving.{any_true}
use Rattle.ap_weaken.specs.Irrelevance.{is_irrelevant, some_irrelevant}
use Rattle.ap_weaken.proofs.leaving.some_irrelevant.Given as goal

-- those that are left decide
abbrev pub invariant-loop-t : goal.invariant-loop-t
invariant-loop-t l = any_true (map (is_irrelevant l.literals) (drop l.t-index l.literals)) ≡ some_irrelevant l.literals
