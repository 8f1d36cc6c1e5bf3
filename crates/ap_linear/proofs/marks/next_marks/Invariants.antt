use Rattle.std.proofs.Common.{◌≡◌, ◌++◌, drop}
use Rattle.ap_linear.specs.Marks.{unmarked}
use Rattle.ap_linear.proofs.marks.next_marks.Given as goal

-- those so far, and those of what is left
abbrev pub invariant-loop-m : goal.invariant-loop-m
invariant-loop-m l = l.out ++ unmarked l.ups l.downs (drop l.m-index l.marks) ≡ unmarked l.ups l.downs l.marks
