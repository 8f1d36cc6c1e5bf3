use Rattle.std.proofs.Common.{◌≡◌, drop, map, not}
use Rattle.ap_kernel.specs.Solving.{any_true}
use Rattle.ap_weaken.specs.Irrelevance.{is_irrelevant, some_relevant}
use Rattle.ap_weaken.proofs.leaving.some_relevant.Given as goal

-- those that are left decide
abbrev pub invariant-loop-t : goal.invariant-loop-t
invariant-loop-t l = any_true (map (λ u. not (is_irrelevant l.literals u)) (drop l.t-index l.literals)) ≡ some_relevant l.literals
