use Rattle.std.proofs.Common.{◌≡◌, ◌++◌, drop, map}
use Rattle.ap_kernel.specs.Induction.{negated_at, moved_at}
use Rattle.ap_kernel.proofs.induction.hypotheses.Given as goal

-- what is made, and what will be of the rest
abbrev pub invariant-loop-call : goal.invariant-loop-call
invariant-loop-call l = l.out ++ map (negated_at l.literals l.s.0 (moved_at l.s.0 l.places)) (drop l.call-index l.calls) ≡ map (negated_at l.literals l.s.0 (moved_at l.s.0 l.places)) l.calls
