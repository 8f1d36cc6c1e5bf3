-- The laws of the kernel, as its public functions of no effect state them.
use Rattle.std.specs.Prelude.{◌≡◌, Bool, true}
use Rattle.ap_term.specs.declared.term.Term.{Term}
use Rattle.ap_world.specs.Meaning.{Env, Defs, Total, FactHolds}
use Rattle.ap_world.specs.Sound.{known}
use Rattle.ap_world.specs.Facts.{Facts, KnownFacts, FactsHold}
use Rattle.ap_world.specs.Assume.{assume}
use Rattle.ap_kernel.specs.Standing.{DefinesNot}

-- what is assumed of a known term in known facts is known
abbrev pub AssumedIsKnown : Type 0
AssumedIsKnown = (D : Defs) (fs : Facts) (u : Term) (s : Bool) → KnownFacts D fs → known D u ≡ true → KnownFacts D (assume fs u s)

-- where the facts hold and the term has the sign's truth, what is assumed holds
abbrev pub AssumedHolds : Type 0
AssumedHolds = (D : Defs) → Total D → DefinesNot D → (e : Env) (fs : Facts) (u : Term) (s : Bool) → known D u ≡ true
    → FactsHold D e fs → FactHolds D e (u, s) → FactsHold D e (assume fs u s)
