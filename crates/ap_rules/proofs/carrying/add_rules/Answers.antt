use Rattle.std.proofs.Common.{◌≡◌, [], ◌∷◌, ◌++◌, List, map, true, refl, sym, ap, ◌∙◌, subst, rules}
use Rattle.std.specs.Vec.Iter.{into_iter_items}
use Rattle.std.proofs.lemmas.List.{append-nil, append_assoc, nil_from_length}
use Rattle.ap_list.specs.Lists.{Each}
use Rattle.ap_term.specs.declared.term.Term.{out-Term}
use Rattle.ap_world.specs.Rules.{is_left}
use Rattle.ap_rules.specs.declared.rule.RewriteRule.{RewriteRule}
use Rattle.ap_rules.specs.Made.{rule_in}
use Rattle.ap_rules.specs.Carried.{Keeps}
use Rattle.ap_rules.proofs.Keeping.{first_ones, came}
use Rattle.ap_rules.proofs.carrying.add_rules.Goals as goal

abbrev AreLeft : List RewriteRule → Type 0
AreLeft gs = Each (λ g. is_left (out-Term g.lhs) ≡ true) gs

pub loop-rule-init : goal.loop-rule-init
loop-rule-init c =
    let all : into_iter_items c.into_iter-rule-iterator.result ≡ c.args.rules = search rules in
    record {
      can_next = tt;
      is_finite = tt;
      left = subst AreLeft (sym all) c.requires;
      came = λ rs k. ([], subst (Keeps c.args.groups.now c.args.heads.now) (sym (append-nil rs)) k, refl);
    }

pub add_rule-requires : goal.add_rule-requires
add_rule-requires c = (subst AreLeft c.in-Some.ensures.steps.0 c.loop-rule.invariant.left).0

pub returns-in-Err-clause-err : goal.returns-in-Err-clause-err
returns-in-Err-clause-err c = λ rs k.
    let i = c.loop-rule.invariant.came rs k in
    subst (Keeps c.cut.new.groups c.cut.new.heads) (first_ones c.args.groups.now c.args.heads.now rs c.len-kept.result c.len-kept.ensures k i.0)
    (c.cut.ensures (rs ++ i.0) (c.in-Err.ensures.err (rs ++ i.0) i.1))

pub loop-rule-preserved : goal.loop-rule-preserved
loop-rule-preserved c =
    let rest = into_iter_items c.next.new.self in
    record {
      can_next = tt;
      is_finite = tt;
      left = (subst AreLeft c.in-Some.ensures.steps.0 c.loop-rule.invariant.left).1;
      came = λ rs k.
          let i = c.loop-rule.invariant.came rs k in (
            i.0 ++ rule_in c.in-Some.rule ∷ [],
            subst (Keeps c.add_rule.new.groups c.add_rule.new.heads) (append_assoc rs i.0 (rule_in c.in-Some.rule ∷ [])) (c.in_default.ensures.ok (rs ++ i.0) i.1),
            came i.0 c.in-Some.rule (into_iter_items c.loop-rule.rule-iterator) rest (map rule_in (into_iter_items c.into_iter-rule-iterator.result)) c.in-Some.ensures.steps.0 i.2,
          );
    }

pub returns-clause-ok : goal.returns-clause-ok
returns-clause-ok c = λ rs k.
    let all : into_iter_items c.into_iter-rule-iterator.result ≡ c.args.rules = search rules in
    let none : into_iter_items c.loop-rule.rule-iterator ≡ [] =
    nil_from_length (into_iter_items c.loop-rule.rule-iterator) (sym c.loop-rule.rule-iterator.rest.ok.0 ∙ c.in-None.ensures.steps.0) in
    let i = c.loop-rule.invariant.came rs k in
    let whole : i.0 ≡ map rule_in c.args.rules =
    sym (append-nil i.0) ∙ ap (λ gs. i.0 ++ map rule_in gs) (sym none) ∙ i.2 ∙ ap (map rule_in) all in
    subst (λ qs. Keeps c.loop-rule.groups c.loop-rule.heads (rs ++ qs)) whole i.1
