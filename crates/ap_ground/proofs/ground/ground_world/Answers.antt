use Rattle.std.proofs.Common.{◌≡◌, true, Err, ap, ◌∙◌}
use Rattle.std.specs.Vec.Iter.{into_iter_items}
use Rattle.ap_world.specs.World.{Shown, are_taken}
use Rattle.ap_ground.proofs.Begun.{functions_fit, none_taken, whole_begun, defined_begun, good_begun, whole_next, defined_next, good_next, free_first}
use Rattle.ap_ground.proofs.ground.ground_world.Goals as goal

pub add_functions-requires : goal.add_functions-requires
add_functions-requires c =
    record { sound = λ _. functions_fit c.bare-world.result.entries c.in_ok-functions.field-0 (ap (λ (w : Shown). w.entries) c.bare-world.ensures) c.in_ok-functions.ensures }

pub unreachable-requires : goal.unreachable-requires
unreachable-requires c =
    let free = none_taken c.bare-world.result.entries c.in_ok-functions.field-0 (ap (λ (w : Shown). w.entries) c.bare-world.ensures) c.in_ok-functions.ensures in
    let taken : are_taken c.bare-world.result.entries c.in_ok-functions.field-0 ≡ true = c.add_functions.ensures.taken.0 (c.in-Err-NameTaken.is ∙ ap Err c.in-Err-NameTaken.field-0-is) in
    cc (free, taken)

pub loop-rule-init : goal.loop-rule-init
loop-rule-init c =
    let none = ap (λ (w : Shown). w.entries) c.bare-world.ensures in
    let items = into_iter_items c.into_iter-rule-iterator.result in
    let rules = c.into_iter-rule-iterator.ensures.into_iter_gives.0 ∙ c.into_vec-rule-items.ensures ∙ c.in_ok-rules.ensures in
    record {
      can_next = tt;
      is_finite = tt;
      whole = whole_begun c.bare-world.result c.add_functions.new.self c.in_ok-functions.field-0 items none c.in-Ok.ensures.ok c.in_ok-functions.ensures rules;
      theory = ap (λ (w : Shown). w.theory) c.in-Ok.ensures.ok ∙ ap (λ (w : Shown). w.theory) c.bare-world.ensures;
      defined = defined_begun c.bare-world.result c.add_functions.new.self c.in_ok-functions.field-0 none c.in-Ok.ensures.ok c.in_ok-functions.ensures;
      good = good_begun items rules;
    }

pub add_rule-requires-clause-free : goal.add_rule-requires-clause-free
add_rule-requires-clause-free c =
    free_first c.loop-rule.world.entries c.in-Some.rule (into_iter_items c.loop-rule.rule-iterator) (into_iter_items c.next.new.self) c.in-Some.ensures.steps.0 c.loop-rule.invariant.whole

pub loop-rule-preserved : goal.loop-rule-preserved
loop-rule-preserved c =
    let now = c.loop-rule.world.entries in
    let later = c.add_rule.new.world.entries in
    let items = into_iter_items c.loop-rule.rule-iterator in
    let left = into_iter_items c.next.new.self in
    let made = ap (λ (w : Shown). w.entries) c.in_ok-add_rule.ensures in
    record {
      can_next = tt;
      is_finite = tt;
      whole = whole_next now later c.in-Some.rule items left made c.in-Some.ensures.steps.0 c.loop-rule.invariant.whole;
      theory = ap (λ (w : Shown). w.theory) c.in_ok-add_rule.ensures ∙ c.loop-rule.invariant.theory;
      defined = defined_next now later c.in-Some.rule made c.loop-rule.invariant.defined;
      good = good_next c.in-Some.rule items left c.in-Some.ensures.steps.0 c.loop-rule.invariant.good;
    }
