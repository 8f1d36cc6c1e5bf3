use Rattle.std.proofs.Common.{◌≡◌, drop, map}
use Rattle.ap_kernel.specs.Solving.{any_true}
use Rattle.ap_strategy.specs.Steps.{is_process}
use Rattle.ap_strategy.proofs.later.is_among.Given as goal

-- it may still stand among those that are left
abbrev pub invariant-loop-other : goal.invariant-loop-other
invariant-loop-other l = any_true (map (is_process l.process) (drop l.other-index l.others)) ≡ any_true (map (is_process l.process) l.others)
