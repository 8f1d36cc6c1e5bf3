use Rattle.std.proofs.Common.{◌≡◌, drop}
use Rattle.ap_linear.specs.Marks.{no_mark_negative}
use Rattle.ap_linear.proofs.marks.no_mark_negative.Given as goal

-- what is left has the answer
abbrev pub invariant-loop-m : goal.invariant-loop-m
invariant-loop-m l = no_mark_negative (drop l.m-index l.marks) ≡ no_mark_negative l.marks
