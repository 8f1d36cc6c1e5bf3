-- What is assumed with a term and a sign: the facts that are added to a context.
use Rattle.std.specs.Prelude.{Bool, true, false, cond, not, List, [], ◌∷◌, ◌++◌, map}
use Rattle.ap_list.specs.Lists.{joined}
use Rattle.ap_term.specs.declared.term.Term.{Term, para-Term, Var, Quote, Call}
use Rattle.ap_term.specs.declared.term.Term.TheOpen.{Term-F}
use Rattle.ap_world.specs.Facts.{Facts}
use Rattle.ap_world.specs.Shapes.{Shape, choice, negation, layer_shape, is_constant}

-- the parts whose signs a term's sign gives: (not a) gives a the other sign; an `if` of which one branch
-- is a constant that hasn't the sign gives its test, and its other branch the sign; `term` is a part's term
abbrev pub parts : {A : Type 0} → (A → Term) → Shape A → Bool → List (A × Bool)
parts term (negation a) s = (a, not s) ∷ []
parts term (choice a b c) s =
    cond (is_constant (not s) (term c)) ((a, true) ∷ (b, s) ∷ [])
    (cond (is_constant (not s) (term b)) ((a, false) ∷ (c, s) ∷ []) [])
parts term y s = []

-- the parts' facts, or the term's own where it has no such parts
abbrev pub gathered : Term → Bool → List Facts → Facts
gathered u s [] = (u, s) ∷ []
gathered u s fss = joined fss

-- the term of a layer whose parts are known with what was made of them
abbrev pub whole : {A : Type 0} → Term-F (Term × A) → Term
whole (Term-F.Var x) = Var x
whole (Term-F.Quote v) = Quote v
whole (Term-F.Call f ps) = Call f (map (λ p. p.0) ps)

abbrev pub assumed_step : Term-F (Term × (Bool → Facts)) → Bool → Facts
assumed_step y s = gathered (whole y) s (map (λ p. p.0.1 p.1) (parts (λ p. p.0) (layer_shape y) s))

-- the facts that a term and a sign stand for
abbrev pub assumed : Term → Bool → Facts
assumed = para-Term (Bool → Facts) assumed_step

-- a context with them appended
abbrev pub assume : Facts → Term → Bool → Facts
assume fs u s = fs ++ assumed u s
