use Rattle.ap_poly.proofs.Sums.{add_value, scale_value, sums_hold, multiples_hold}
use Rattle.ap_poly.proofs.laws.sums_hold.Goals as goal

pub returns-clause-sums_mean : goal.returns-clause-sums_mean
returns-clause-sums_mean c = λ p q s h r. add_value r p q s h

pub returns-clause-sums : goal.returns-clause-sums
returns-clause-sums c = sums_hold

pub returns-clause-multiples_mean : goal.returns-clause-multiples_mean
returns-clause-multiples_mean c = λ k p s h r. scale_value r k p s h

pub returns-clause-multiples : goal.returns-clause-multiples
returns-clause-multiples c = multiples_hold
