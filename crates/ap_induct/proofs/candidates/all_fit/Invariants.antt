use Rattle.std.proofs.Common.{◌≡◌, length, map, zip}
use Rattle.ap_list.specs.Lists.{all_true}
use Rattle.ap_kernel.specs.Induction.{fits}
use Rattle.ap_induct.proofs.candidates.all_fit.Given as goal

-- those that are left decide
abbrev pub invariant-loop-left : goal.invariant-loop-left
invariant-loop-left l = all_true (map (fits l.function.formals l.measure l.function.cases l.names) (zip l.left l.values)) ≡ all_true (map (fits l.function.formals l.measure l.function.cases l.names) (zip l.function.formals l.actuals))

abbrev pub decreases-loop-left : goal.decreases-loop-left
decreases-loop-left l = length l.left
