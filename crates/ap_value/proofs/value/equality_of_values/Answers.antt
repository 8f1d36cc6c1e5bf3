use Rattle.std.proofs.Common.{◌≡◌, true, subst}
use Rattle.ap_value.specs.Equal.{constant_eq}
use Rattle.ap_value.proofs.Constants.{constant_eq-true, constant_eq-same}
use Rattle.ap_value.proofs.value.equality_of_values.Goals as goal

pub returns : goal.returns
returns c a b = (constant_eq-true a b, λ e. subst (λ v. constant_eq a v ≡ true) e (constant_eq-same a))
