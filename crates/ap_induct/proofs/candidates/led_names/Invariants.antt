use Rattle.std.proofs.Common.{◌≡◌, ◌++◌, length, zip}
use Rattle.ap_kernel.specs.Induction.{led_names}
use Rattle.ap_induct.proofs.candidates.led_names.Given as goal

-- the names so far, and those of what is left
abbrev pub invariant-loop-left : goal.invariant-loop-left
invariant-loop-left l = l.out ++ led_names l.function.formals l.measure l.function.cases (zip l.left l.values) ≡ led_names l.function.formals l.measure l.function.cases (zip l.function.formals l.actuals)

abbrev pub decreases-loop-left : goal.decreases-loop-left
decreases-loop-left l = length l.left
