use Rattle.ap_list.specs.Lists.{Each}
use Rattle.ap_kernel.specs.Standing.{Stands}
use Rattle.ap_tests_theorems.proofs.theorems.all_facts.Given as goal

-- each that was made stands
abbrev pub invariant-loop-i : goal.invariant-loop-i
invariant-loop-i g l = Each (Stands l.w) l.out
