use Rattle.std.proofs.Common.{◌≡◌, ◌++◌, drop}
use Rattle.ap_kernel.specs.Answers.{said, lefts}
use Rattle.ap_kernel.proofs.calls.left_sides.Given as goal

-- what is made, and what will be of the rest
abbrev pub invariant-loop-q : goal.invariant-loop-q
invariant-loop-q l = l.out ++ lefts (said (drop l.q-index l.args)) ≡ lefts (said l.args)
