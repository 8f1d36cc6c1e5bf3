-- The equations of conjuncts, clauses and cases, and an obligation as the clause of a conjecture.
use Rattle.std.proofs.Common.{◌≡◌, true, false, cond, List, [], ◌∷◌, ◌++◌, map, zip, refl, sym, ap, ◌∙◌}
use Rattle.std.proofs.lemmas.List.{append-nil}
use Rattle.ap_list.specs.Lists.{joined}
use Rattle.ap_value.specs.declared.symbol.Symbol.{Symbol}
use Rattle.ap_value.specs.declared.value.Value.TheVariants.{Sym}
use Rattle.ap_value.specs.Values.{symbol_eq, value_eq}
use Rattle.ap_value.proofs.Equals.{symbol_eq-same, value_eq-same}
use Rattle.ap_term.specs.declared.term.Term.{Term, Call}
use Rattle.ap_term.specs.Terms.{subst_of}
use Rattle.ap_world.specs.Names.{nil_name, if_name, equal_name, less_name, implies_name}
use Rattle.ap_world.specs.Primitives.{nil}
use Rattle.ap_world.specs.Clauses.{negate, is_nil, if_parts, and_parts, conjuncts, implied, flat}
use Rattle.ap_world.specs.Recursion.{at_branches, two_cases, one_case, cases_of, t_constant, nil_constant, less, negated_tests}
use Rattle.ap_world.specs.Ground.{if_term, two}
use Rattle.ap_world.specs.Laws.{ConjunctsOfIf, FlatOfImplies, CasesOfIf, conjunction, under, DecreaseIsFlat}
use Rattle.ap_world.proofs.Equations.{names_open, val_of_nil}
use Rattle.ap_world.proofs.Written.{is_nil_quote, conjuncts_call, flat_quote, flat_call, cases_call}

pub conjuncts_if : ConjunctsOfIf
conjuncts_if a b c = conjuncts_call if_name (a ∷ b ∷ c ∷ [])
    ∙ ap (λ q. and_parts (if_parts q (map (λ u. (u, conjuncts u)) (a ∷ b ∷ c ∷ []))) (if_term a b c ∷ [])) (symbol_eq-same if_name)

pub flat_implies : FlatOfImplies
flat_implies h c = flat_call implies_name (h ∷ c ∷ [])
    ∙ ap (λ q. implied q (map (λ u. (u, flat u)) (h ∷ c ∷ [])) (two implies_name h c ∷ [])) (symbol_eq-same implies_name)

pub cases_if : CasesOfIf
cases_if F a b c = cases_call F if_name (a ∷ b ∷ c ∷ [])
    ∙ ap (λ q. at_branches F two_cases (one_case F (if_term a b c)) (if_parts q (map (λ u. (u, cases_of F u)) (a ∷ b ∷ c ∷ [])))) (symbol_eq-same if_name)

pub nil_is_nil : is_nil nil_constant ≡ true
nil_is_nil = is_nil_quote (Sym nil_name) ∙ ap (λ v. value_eq v nil) val_of_nil ∙ value_eq-same nil

less_no_implies : symbol_eq less_name implies_name ≡ false
unfolding names_open
less_no_implies = refl

if_no_implies : symbol_eq if_name implies_name ≡ false
unfolding names_open
if_no_implies = refl

-- the conjuncts of a conjunction are those of the tests
conjuncts_of : (a : Term) (ts : List Term) → conjuncts (conjunction a ts) ≡ joined (map conjuncts (a ∷ ts))
conjuncts_of a [] = sym (append-nil (conjuncts a))
conjuncts_of a (b ∷ ts) = conjuncts_if a (conjunction b ts) nil_constant
    ∙ ap (λ q. cond q (conjuncts a ++ conjuncts (conjunction b ts)) (if_term a (conjunction b ts) nil_constant ∷ [])) nil_is_nil
    ∙ ap (λ us. conjuncts a ++ us) (conjuncts_of b ts)

-- a call that is no implication is its one literal
flat_alone : (f : Symbol) (ts : List Term) → symbol_eq f implies_name ≡ false → flat (Call f ts) ≡ Call f ts ∷ []
flat_alone f ts other = flat_call f ts ∙ ap (λ q. implied q (map (λ u. (u, flat u)) ts) (Call f ts ∷ [])) other

flat_less : (xs ys : List Term) → flat (less xs ys) ≡ less xs ys ∷ []
flat_less [] ys = flat_quote (Sym nil_name)
flat_less (a ∷ []) [] = flat_quote (Sym nil_name)
flat_less (a ∷ b ∷ xs) [] = flat_quote (Sym nil_name)
flat_less (a ∷ []) (b ∷ []) = flat_alone less_name (a ∷ b ∷ []) less_no_implies
flat_less (a ∷ []) (b ∷ c ∷ ys) = flat_alone if_name (Call less_name (a ∷ b ∷ []) ∷ t_constant ∷ Call if_name (Call equal_name (a ∷ b ∷ []) ∷ less [] (c ∷ ys) ∷ nil_constant ∷ []) ∷ []) if_no_implies
flat_less (a ∷ c ∷ xs) (b ∷ ys) = flat_alone if_name (Call less_name (a ∷ b ∷ []) ∷ t_constant ∷ Call if_name (Call equal_name (a ∷ b ∷ []) ∷ less (c ∷ xs) ys ∷ nil_constant ∷ []) ∷ []) if_no_implies

flat_under : (ts : List Term) (u : Term) → flat u ≡ u ∷ [] → flat (under ts u) ≡ negated_tests ts ++ u ∷ []
flat_under [] u h = h
flat_under (a ∷ ts) u h = flat_implies (conjunction a ts) u
    ∙ ap (λ us. map negate us ++ flat u) (conjuncts_of a ts)
    ∙ ap (λ us. negated_tests (a ∷ ts) ++ us) h

pub decrease_flat : DecreaseIsFlat
decrease_flat formals m k c =
    let us = map (subst_of (zip formals c)) m in
    sym (flat_under k.tests (less us m) (flat_less us m))
