use Rattle.std.proofs.Common.{◌≡◌, ◌++◌, drop}
use Rattle.ap_kernel.specs.Induction.{induction, moved_at}
use Rattle.ap_kernel.proofs.induction.all_clauses.Given as goal

-- what is made, and what will be of the rest
abbrev pub invariant-loop-case : goal.invariant-loop-case
invariant-loop-case l = l.out ++ induction l.literals l.s.0 (moved_at l.s.0 l.places) (drop l.case-index l.cases) ≡ induction l.literals l.s.0 (moved_at l.s.0 l.places) l.cases
