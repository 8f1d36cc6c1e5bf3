use Rattle.ap_kernel.specs.Weighing.{weight}
use Rattle.ap_kernel.proofs.derivations.let_all_go.Given as goal

abbrev pub decreases-loop-next : goal.decreases-loop-next
decreases-loop-next l = weight l.left
