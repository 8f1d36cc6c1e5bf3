use Rattle.std.proofs.Common.{◌≡◌, ◌++◌, drop}
use Rattle.ap_poly.proofs.parts.extend_parts.Given as goal

-- what is there, and what is left
abbrev pub invariant-loop-t : goal.invariant-loop-t
invariant-loop-t l = l.out ++ drop l.t-index l.parts ≡ l.fn.out ++ l.parts
