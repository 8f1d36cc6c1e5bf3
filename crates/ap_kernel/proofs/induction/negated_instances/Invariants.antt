use Rattle.std.proofs.Common.{◌≡◌, ◌++◌, drop, map}
use Rattle.ap_term.specs.Terms.{subst_of}
use Rattle.ap_world.specs.Clauses.{negate}
use Rattle.ap_kernel.proofs.induction.negated_instances.Given as goal

-- what is made, and what will be of the rest
abbrev pub invariant-loop-t : goal.invariant-loop-t
invariant-loop-t l = l.out ++ map (λ t. negate (subst_of l.s.0 t)) (drop l.t-index l.terms) ≡ map (λ t. negate (subst_of l.s.0 t)) l.terms
