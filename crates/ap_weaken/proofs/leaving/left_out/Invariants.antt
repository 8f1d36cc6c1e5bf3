use Rattle.std.proofs.Common.{◌≡◌, ◌++◌, length}
use Rattle.ap_kernel.specs.Reductions.{Reduces, to_one}
use Rattle.ap_weaken.specs.Irrelevance.{is_irrelevant, those_not}
use Rattle.ap_weaken.proofs.leaving.left_out.Given as goal

-- the literals that are kept, and those that are left
abbrev pub invariant-loop-left : goal.invariant-loop-left
invariant-loop-left l = Reduces l.w l.done × (l.done.says ≡ to_one l.c (l.kept ++ l.left)) × (l.kept ++ those_not (is_irrelevant l.c.0) l.left ≡ those_not (is_irrelevant l.c.0) l.c.0)

abbrev pub decreases-loop-left : goal.decreases-loop-left
decreases-loop-left l = length l.left
