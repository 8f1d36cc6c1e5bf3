use Rattle.std.proofs.Common.{◌≡◌, ◌++◌, [], ◌∷◌, true, ap, sym, ◌∙◌, rules}
use Rattle.std.proofs.lemmas.List.{append-nil}
use Rattle.ap_value.specs.Values.{symbol_eq}
use Rattle.ap_term.specs.declared.term.Term.{Call}
use Rattle.ap_term.proofs.Seen.{seen}
use Rattle.ap_world.specs.Names.{implies_name}
use Rattle.ap_world.specs.Clauses.{conjuncts}
use Rattle.ap_world.specs.Rules.{stated}
use Rattle.ap_world.proofs.Conjoined.{pair_is, by_steps}
use Rattle.ap_rules.proofs.Stated.{stated_pair, stating}
use Rattle.ap_rules.proofs.statement.+push_hyps.Goals as goal

pub returns-in_ok-push_conjuncts-in-true-len2-clause-hyps : goal.returns-in_ok-push_conjuncts-in-true-len2-clause-hyps
returns-in_ok-push_conjuncts-in-true-len2-clause-hyps t c =
    let u : c.args.t.now ≡ Call c.in-Call.f (c.h-item.result ∷ c.c-item.result ∷ []) =
    (seen c.t.view_is c.in-Call.is) ∙ ap (Call c.in-Call.f) (pair_is c.as_slice.result.now c.in-Call.ts c.h-item.result c.c-item.result c.as_slice.ensures c.in-true-len2.len_at_least c.in-true-len2.len_below c.h-item.is c.c-item.is) in
    let q : symbol_eq c.in-Call.f implies_name ≡ true = search rules in
    let first : c.push_conjuncts.new.out ≡ c.args.hyps.now ++ conjuncts c.h-item.result = search rules in
    let e : c.args.hyps.now ++ (stated c.args.t.now).0 ≡ c.push_conjuncts.new.out ++ (stated c.c-item.result).0 =
    by_steps c.args.hyps.now c.push_conjuncts.new.out (conjuncts c.h-item.result) (stated c.c-item.result).0 (stated c.args.t.now).0
    (ap (λ p. p.0) (stated_pair c.args.t.now c.in-Call.f c.h-item.result c.c-item.result u q)) first in
    rw e c.push_hyps.ensures.hyps

pub returns-in_ok-push_conjuncts-in-true-len2-clause-rest : goal.returns-in_ok-push_conjuncts-in-true-len2-clause-rest
returns-in_ok-push_conjuncts-in-true-len2-clause-rest t c =
    let u : c.args.t.now ≡ Call c.in-Call.f (c.h-item.result ∷ c.c-item.result ∷ []) =
    (seen c.t.view_is c.in-Call.is) ∙ ap (Call c.in-Call.f) (pair_is c.as_slice.result.now c.in-Call.ts c.h-item.result c.c-item.result c.as_slice.ensures c.in-true-len2.len_at_least c.in-true-len2.len_below c.h-item.is c.c-item.is) in
    let q : symbol_eq c.in-Call.f implies_name ≡ true = search rules in
    let e : (stated c.args.t.now).1 ≡ (stated c.c-item.result).1 = ap (λ p. p.1) (stated_pair c.args.t.now c.in-Call.f c.h-item.result c.c-item.result u q) in
    rw e c.push_hyps.ensures.rest

pub returns-in_default-clause-hyps : goal.returns-in_default-clause-hyps
returns-in_default-clause-hyps t c =
    let none : (stated c.args.t.now).0 ≡ [] = search (rules, stating) in
    rw none (sym (append-nil c.args.hyps.now))

pub returns-in-Var-clause-hyps : goal.returns-in-Var-clause-hyps
returns-in-Var-clause-hyps t c =
    let none : (stated c.args.t.now).0 ≡ [] = search (rules, stating) in
    rw none (sym (append-nil c.args.hyps.now))

pub returns-in-Quote-clause-hyps : goal.returns-in-Quote-clause-hyps
returns-in-Quote-clause-hyps t c =
    let none : (stated c.args.t.now).0 ≡ [] = search (rules, stating) in
    rw none (sym (append-nil c.args.hyps.now))
