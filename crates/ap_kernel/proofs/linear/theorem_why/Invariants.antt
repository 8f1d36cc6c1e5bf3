use Rattle.std.proofs.Common.{◌≡◌, take}
use Rattle.ap_kernel.proofs.linear.theorem_why.Given as goal

-- the equivalences so far are copied
abbrev pub invariant-loop-q : goal.invariant-loop-q
invariant-loop-q l = l.hyps ≡ take l.q-index l.shown
