-- Destructor elimination: a variable becomes the cons of two new ones.
use Rattle.std.specs.Prelude.{cond, List, [], ◌∷◌, map, Option, Some, None}
use Rattle.ap_list.specs.Lists.{with_first}
use Rattle.ap_value.specs.declared.symbol.Symbol.{Symbol}
use Rattle.ap_term.specs.declared.term.Term.{Term, Var, Call}
use Rattle.ap_term.specs.declared.term.Clause.{Clause}
use Rattle.ap_term.specs.Equal.{term_eq}
use Rattle.ap_world.specs.Names.{consp_name, cons_name, car_name, cdr_name}
use Rattle.ap_world.specs.Clauses.{not_of}
use Rattle.ap_kernel.specs.declared.reductions.Inference.{Inference}
use Rattle.ap_kernel.specs.Swapping.{swapped}

-- a call of one argument, a variable
abbrev pub call_on : Symbol → Symbol → Term
call_on f v = Call f (Var v ∷ [])

abbrev pub consp_term : Symbol → Term
consp_term v = call_on consp_name v

-- a for (car v), b for (cdr v), (cons a b) for other v
abbrev pub taken_apart : Symbol → Symbol → Symbol → List (Term × Term)
taken_apart v a b = (call_on car_name v, Var a) ∷ (call_on cdr_name v, Var b) ∷ (Var v, Call cons_name (Var a ∷ Var b ∷ [])) ∷ []

abbrev pub reduced : List (Term × Term) → List Term → List Term
reduced s ts = map (swapped s) ts

-- a list without the first element that is this term, where there is one
abbrev pub without_first : Term → List Term → Option (List Term)
without_first u [] = None
without_first u (w ∷ ws) = cond (term_eq u w) (Some ws) (with_first w (without_first u ws))

-- where (not (consp v)) is a literal: the reduced clause without it; else the clause with (consp v) first, and the reduced clause
abbrev pub elim_goals : List (Term × Term) → Symbol → List Term → Option (List Term) → List Clause
elim_goals s v ts (Some rest) = record { 0 = reduced s rest } ∷ []
elim_goals s v ts None = record { 0 = consp_term v ∷ ts } ∷ record { 0 = reduced s ts } ∷ []

abbrev pub eliminated : Clause → Symbol → Symbol → Symbol → Inference
eliminated c v a b = record { from = c; to = elim_goals (taken_apart v a b) v c.0 (without_first (not_of (consp_term v)) c.0) }
