use Rattle.std.proofs.Common.{◌≡◌, ◌∷◌, map}
use Rattle.ap_kernel.specs.declared.reductions.Reduction.{Reduction}
use Rattle.ap_kernel.specs.Reductions.{claims, all_to}
use Rattle.ap_kernel.proofs.chaining.gathered.Given as goal

abbrev pub invariant-loop-r : goal.invariant-loop-r
invariant-loop-r l = (l.whys ≡ l.fn.first ∷ map (λ (r : Reduction). r.why) l.yielded) × (l.goals ≡ all_to (claims l.yielded))
