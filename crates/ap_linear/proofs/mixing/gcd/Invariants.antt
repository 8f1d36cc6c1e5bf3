use Rattle.std.proofs.Common.{◌≡◌}
use Rattle.ap_poly.specs.Elimination.{gcd}
use Rattle.ap_linear.proofs.mixing.gcd.Given as goal

-- the divisor stays the same
abbrev pub invariant-loop-n : goal.invariant-loop-n
invariant-loop-n l = gcd l.m l.n ≡ gcd l.a l.b

abbrev pub decreases-loop-n : goal.decreases-loop-n
decreases-loop-n l = l.n
