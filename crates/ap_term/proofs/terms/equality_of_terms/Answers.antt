use Rattle.std.proofs.Common.{◌≡◌, true, subst}
use Rattle.ap_term.specs.Equal.{term_eq}
use Rattle.ap_term.proofs.Equals.{term_eq-true, term_eq-same}
use Rattle.ap_term.proofs.terms.equality_of_terms.Goals as goal

pub returns : goal.returns
returns c a b = (term_eq-true a b, λ e. subst (λ t. term_eq a t ≡ true) e (term_eq-same a))
