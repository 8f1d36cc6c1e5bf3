use Rattle.std.proofs.Common.{◌≡◌, false, drop}
use Rattle.ap_linear.specs.Marks.{words_after}
use Rattle.ap_linear.proofs.marks.all_down.Given as goal

-- what is left is added to what is there
abbrev pub invariant-loop-m : goal.invariant-loop-m
invariant-loop-m l = words_after false l.out (drop l.m-index l.marks) ≡ words_after false 0 l.marks
