use Rattle.std.proofs.Common.{◌≡◌, ◌++◌, ◌∷◌, drop, map}
use Rattle.ap_list.specs.Lists.{joined}
use Rattle.ap_kernel.proofs.induction.with_each.Given as goal

-- what is made, and what will be of the rest
abbrev pub invariant-loop-x : goal.invariant-loop-x
invariant-loop-x l = l.out ++ joined (map (λ x. map (λ ys. x ∷ ys) l.later) (drop l.x-index l.firsts)) ≡ joined (map (λ x. map (λ ys. x ∷ ys) l.later) l.firsts)
