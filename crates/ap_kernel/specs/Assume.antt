-- What is lent of the parts whose signs a term's sign gives.
use Rattle.std.specs.Prelude.{Bool, List, [], ◌∷◌}
use Rattle.ap_term.specs.declared.term.Term.{Term}
use Rattle.ap_kernel.specs.declared.assuming.Halves.{Halves}
use Rattle.ap_kernel.specs.declared.assuming.Halves.TheVariants as lent

-- the parts that are lent
abbrev pub seen_halves : Halves → List (Term × Bool)
seen_halves lent.Whole = []
seen_halves (lent.One a s) = (a.now, s) ∷ []
seen_halves (lent.Two a s b r) = (a.now, s) ∷ (b.now, r) ∷ []
