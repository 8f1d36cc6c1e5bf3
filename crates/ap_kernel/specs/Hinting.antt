-- What hints make of a clause: cases, and a theorem's instance that is used.
use Rattle.std.specs.Prelude.{List, [], ◌∷◌, ◌++◌, map}
use Rattle.ap_term.specs.declared.term.Term.{Term}
use Rattle.ap_term.specs.declared.term.Clause.{Clause}
use Rattle.ap_term.specs.Terms.{subst_of}
use Rattle.ap_term.specs.Matching.{Pairs}
use Rattle.ap_world.specs.Clauses.{negate}
use Rattle.ap_kernel.specs.declared.reductions.Inference.{Inference}
use Rattle.ap_kernel.specs.Inferences.{to_one}

-- the clauses in which the literals have one term before them
abbrev pub negated_cases : List Term → List Term → List Clause
negated_cases on ts = map (λ u. record { 0 = negate u ∷ ts }) on

-- the negation of each term before the literals, and last all the terms before them
abbrev pub case_clauses : List Term → List Term → List Clause
case_clauses on ts = negated_cases on ts ++ record { 0 = on ++ ts } ∷ []

abbrev pub cased : Clause → List Term → Inference
cased c on = record { from = c; to = case_clauses on c.0 }

-- a theorem's instance, negated once it is made, before the literals
abbrev pub used : Clause → Term → Pairs → Inference
used c u s = to_one c (negate (subst_of s u) ∷ c.0)
