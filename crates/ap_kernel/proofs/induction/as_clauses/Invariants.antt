use Rattle.std.proofs.Common.{◌≡◌, map}
use Rattle.ap_kernel.proofs.induction.as_clauses.Given as goal

-- each list so far is a clause
abbrev pub invariant-loop-list : goal.invariant-loop-list
invariant-loop-list l = l.out ≡ map (λ ts. record { 0 = ts }) l.yielded
