-- Facts: terms of the world, each assumed other than nil or to be nil.
use Rattle.std.specs.Prelude.{Bool, IsTrue, List}
use Rattle.ap_list.specs.Lists.{Each}
use Rattle.ap_term.specs.declared.term.Term.{Term}
use Rattle.ap_world.specs.Meaning.{Env, Defs, FactHolds}
use Rattle.ap_world.specs.Sound.{known}

-- terms, each assumed other than nil or to be nil
abbrev pub Facts : Type 0
Facts = List (Term × Bool)

-- each fact's term is a term of the world
abbrev pub KnownFacts : Defs → Facts → Type 0
KnownFacts D fs = Each (λ f. IsTrue (known D f.0)) fs

-- under an assignment every fact holds
abbrev pub FactsHold : Defs → Env → Facts → Type 0
FactsHold D e fs = Each (FactHolds D e) fs
