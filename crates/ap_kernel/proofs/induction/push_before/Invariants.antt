use Rattle.std.proofs.Common.{◌≡◌, ◌++◌, ◌∷◌, drop, map}
use Rattle.ap_kernel.proofs.induction.push_before.Given as goal

-- what is made, and what will be of the rest
abbrev pub invariant-loop-list : goal.invariant-loop-list
invariant-loop-list l = l.out ++ map (λ ys. l.first ∷ ys) (drop l.list-index l.lists) ≡ l.initial.out ++ map (λ ys. l.first ∷ ys) l.lists
