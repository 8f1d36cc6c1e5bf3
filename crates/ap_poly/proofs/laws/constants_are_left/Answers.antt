use Rattle.ap_poly.proofs.Divisors.{gcd_is}
use Rattle.ap_poly.proofs.Left.{constants_left}
use Rattle.ap_poly.proofs.laws.constants_are_left.Goals as goal

pub returns-clause-divisor : goal.returns-clause-divisor
returns-clause-divisor c = gcd_is

pub returns-clause-left : goal.returns-clause-left
returns-clause-left c = constants_left
