use Rattle.std.proofs.Common.{◌≡◌, take}
use Rattle.ap_world.proofs.entry.copy_cases.Given as goal

-- what stands so far is copied
abbrev pub invariant-loop-case : goal.invariant-loop-case
invariant-loop-case l = l.out ≡ take l.case-index l.cases
