use Rattle.std.proofs.Common.{◌≡◌, ◌++◌, drop}
use Rattle.ap_kernel.specs.Answers.{said, rights}
use Rattle.ap_kernel.proofs.calls.right_sides.Given as goal

-- what is made, and what will be of the rest
abbrev pub invariant-loop-q : goal.invariant-loop-q
invariant-loop-q l = l.out ++ rights (said (drop l.q-index l.args)) ≡ rights (said l.args)
