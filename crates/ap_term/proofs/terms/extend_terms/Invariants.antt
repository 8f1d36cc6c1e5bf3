use Rattle.std.proofs.Common.{◌≡◌, ◌++◌, drop}
use Rattle.ap_term.proofs.terms.extend_terms.Given as goal

-- what is there, and what is left
abbrev pub invariant-loop-t : goal.invariant-loop-t
invariant-loop-t l = l.out ++ drop l.t-index l.terms ≡ l.fn.out ++ l.terms
