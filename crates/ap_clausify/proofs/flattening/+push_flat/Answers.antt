use Rattle.std.proofs.Common.{◌≡◌, ◌++◌, [], ◌∷◌, map, true, ap, ◌∙◌, rules}
use Rattle.ap_value.specs.Values.{symbol_eq}
use Rattle.ap_term.specs.declared.term.Term.{Call}
use Rattle.ap_term.proofs.Seen.{seen}
use Rattle.ap_world.specs.Names.{implies_name}
use Rattle.ap_world.specs.Clauses.{negate, conjuncts, flat}
use Rattle.ap_clausify.proofs.Flattened.{pair_is, flat_pair, by_steps}
use Rattle.ap_clausify.proofs.flattening.+push_flat.Goals as goal

pub returns-in_ok-push_negations-in-true-len2 : goal.returns-in_ok-push_negations-in-true-len2
returns-in_ok-push_negations-in-true-len2 t c =
    let u : c.args.t.now ≡ Call c.in-Call.f (c.h-item.result ∷ c.c-item.result ∷ []) =
    (seen c.t.view_is c.in-Call.is) ∙ ap (Call c.in-Call.f) (pair_is c.as_slice.result.now c.in-Call.ts c.h-item.result c.c-item.result c.as_slice.ensures c.in-true-len2.len_at_least c.in-true-len2.len_below c.h-item.is c.c-item.is) in
    let q : symbol_eq c.in-Call.f implies_name ≡ true = search rules in
    let first : c.push_negations.new.out ≡ c.args.out.now ++ map negate (conjuncts c.h-item.result) = search rules in
    let e : c.args.out.now ++ flat c.args.t.now ≡ c.push_negations.new.out ++ flat c.c-item.result =
    by_steps c.args.out.now c.push_negations.new.out (map negate (conjuncts c.h-item.result)) (flat c.c-item.result) (flat c.args.t.now)
    (flat_pair c.args.t.now c.in-Call.f c.h-item.result c.c-item.result u q) first in
    rw e c.push_flat.ensures
