-- The family of two stops by its second sibling.
use Rattle.std.proofs.Common.{◌≡◌, true, None, refl, sym, subst}
use Rattle.ap_word.specs.declared.family.Family.{Family}
use Rattle.ap_word.specs.Stops.{stops, sum_to}
use Rattle.ap_word.specs.Words.{IsStop, family_of}
use Rattle.ap_tests.specs.Families.{second_stops}

pub stops_by_second : (f : Family) → f ≡ family_of second_stops None 10 → IsStop f 1
unfolding stops sum_to
stops_by_second f is = subst (λ g. IsStop g 1) (sym is) refl
