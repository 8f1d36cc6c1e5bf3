use Rattle.std.proofs.Common.{◌≡◌, ◌++◌, [], ◌∷◌, map, true, ap, ◌∙◌, rules}
use Rattle.ap_value.specs.Values.{symbol_eq}
use Rattle.ap_term.specs.declared.term.Term.{Call}
use Rattle.ap_term.proofs.Seen.{seen}
use Rattle.ap_world.specs.Names.{if_name}
use Rattle.ap_world.specs.Clauses.{negate, conjuncts, is_nil}
use Rattle.ap_clausify.proofs.Flattened.{triple_is, conjuncts_pair, by_steps}
use Rattle.ap_clausify.proofs.flattening.+push_negations.Goals as goal

pub returns-in_ok-push_negations-in-true-len3 : goal.returns-in_ok-push_negations-in-true-len3
returns-in_ok-push_negations-in-true-len3 t c =
    let u : c.args.t.now ≡ Call c.in-Call.f (c.a-item.result ∷ c.b-item.result ∷ c.c-item.result ∷ []) =
    (seen c.t.view_is c.in-Call.is) ∙ ap (Call c.in-Call.f) (triple_is c.as_slice.result.now c.in-Call.ts c.a-item.result c.b-item.result c.c-item.result c.as_slice.ensures c.in-true-len3.len_at_least c.in-true-len3.len_below c.a-item.is c.b-item.is c.c-item.is) in
    let q : symbol_eq c.in-Call.f if_name ≡ true = search rules in
    let z : is_nil c.c-item.result ≡ true = search rules in
    let first : c.push_negations.new.out ≡ c.args.out.now ++ map negate (conjuncts c.a-item.result) = search rules in
    let e : c.args.out.now ++ map negate (conjuncts c.args.t.now) ≡ c.push_negations.new.out ++ map negate (conjuncts c.b-item.result) =
    by_steps c.args.out.now c.push_negations.new.out (map negate (conjuncts c.a-item.result)) (map negate (conjuncts c.b-item.result)) (map negate (conjuncts c.args.t.now))
    (conjuncts_pair c.args.t.now c.in-Call.f c.a-item.result c.b-item.result c.c-item.result u q z) first in
    rw e c.push_negations-in-true-len3.ensures
