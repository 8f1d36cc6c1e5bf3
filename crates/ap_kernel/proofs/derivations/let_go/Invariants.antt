use Rattle.ap_kernel.specs.Weighing.{below}
use Rattle.ap_kernel.proofs.derivations.let_go.Given as goal

abbrev pub decreases-loop-below : goal.decreases-loop-below
decreases-loop-below l = below l.next
