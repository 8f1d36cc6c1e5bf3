use Rattle.std.proofs.Common.{◌≡◌, ◌++◌, length}
use Rattle.std.specs.Option.{option_map}
use Rattle.ap_kernel.specs.Eliminating.{without_first}
use Rattle.ap_kernel.proofs.eliminating.without_first.Given as goal

-- those that were passed stand before what is left of the rest
abbrev pub invariant-loop-left : goal.invariant-loop-left
invariant-loop-left l = option_map (λ ts. l.out ++ ts) (without_first l.u l.left) ≡ without_first l.u l.terms

abbrev pub decreases-loop-left : goal.decreases-loop-left
decreases-loop-left l = length l.left
