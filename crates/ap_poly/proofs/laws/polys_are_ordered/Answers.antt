use Rattle.ap_poly.proofs.InOrder.{literals_ordered, sums_ordered, multiples_ordered}
use Rattle.ap_poly.proofs.laws.polys_are_ordered.Goals as goal

pub returns-clause-literals : goal.returns-clause-literals
returns-clause-literals c = literals_ordered

pub returns-clause-sums : goal.returns-clause-sums
returns-clause-sums c = sums_ordered

pub returns-clause-multiples : goal.returns-clause-multiples
returns-clause-multiples c = multiples_ordered
