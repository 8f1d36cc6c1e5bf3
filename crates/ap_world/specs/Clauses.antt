-- Terms as clauses: negations, conjuncts, and the clause that a conjecture starts from.
use Rattle.std.specs.Prelude.{Bool, true, false, cond, List, [], ◌∷◌, ◌++◌, map, Option, Some, None}
use Rattle.ap_value.specs.Values.{val_of, symbol_eq, value_eq}
use Rattle.ap_term.specs.declared.term.Term.{Term, para-Term, out-Term, Var, Quote, Call}
use Rattle.ap_term.specs.declared.term.Term.TheOpen.{Term-F}
pub use Rattle.ap_term.specs.Leaves.{if_parts}
use Rattle.ap_world.specs.Names.{if_name, not_name, implies_name}
use Rattle.ap_world.specs.Primitives.{nil}

-- (not a)
abbrev pub not_of : Term → Term
not_of a = Call not_name (a ∷ [])

-- the argument where the call is one of `not`
abbrev pub negated_part : Bool → List Term → Term → Term
negated_part true (a ∷ []) u = a
negated_part b ts u = not_of u

abbrev pub negation : Term-F Term → Term → Term
negation (Term-F.Var x) u = not_of u
negation (Term-F.Quote v) u = not_of u
negation (Term-F.Call f ts) u = negated_part (symbol_eq f not_name) ts u

-- the negation of (not a) is a, of another term u it is (not u)
abbrev pub negate : Term → Term
negate u = negation (out-Term u) u

-- a constant that means nil
abbrev pub is_nil_constant : Term-F Term → Bool
is_nil_constant (Term-F.Quote v) = value_eq (val_of v) nil
is_nil_constant y = false

abbrev pub is_nil : Term → Bool
is_nil u = is_nil_constant (out-Term u)

-- the conjuncts of (if a b 'NIL) are those of a and those of b; another term is its one conjunct
abbrev pub and_parts : Option ((Term × List Term) × (Term × List Term) × (Term × List Term)) → List Term → List Term
and_parts None alone = alone
and_parts (Some (a, b, c)) alone = cond (is_nil c.0) (a.1 ++ b.1) alone

abbrev pub conjuncts_step : Term-F (Term × List Term) → List Term
conjuncts_step (Term-F.Var x) = Var x ∷ []
conjuncts_step (Term-F.Quote v) = Quote v ∷ []
conjuncts_step (Term-F.Call f ps) = and_parts (if_parts (symbol_eq f if_name) ps) (Call f (map (λ p. p.0) ps) ∷ [])

abbrev pub conjuncts : Term → List Term
conjuncts = para-Term (List Term) conjuncts_step

-- the clause of (implies h c): the negations of h's conjuncts, then the clause of c; another term is one literal
abbrev pub implied : Bool → List (Term × List Term) → List Term → List Term
implied true (h ∷ c ∷ []) alone = map negate (conjuncts h.0) ++ c.1
implied b ps alone = alone

abbrev pub flat_step : Term-F (Term × List Term) → List Term
flat_step (Term-F.Var x) = Var x ∷ []
flat_step (Term-F.Quote v) = Quote v ∷ []
flat_step (Term-F.Call f ps) = implied (symbol_eq f implies_name) ps (Call f (map (λ p. p.0) ps) ∷ [])

abbrev pub flat : Term → List Term
flat = para-Term (List Term) flat_step
