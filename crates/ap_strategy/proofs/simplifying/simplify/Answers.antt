use Rattle.std.proofs.Common.{◌≡◌, ◌∙◌, ◌≤◌, [], List, Option, Some, IfSome, length, sym, ap, subst, arith, rules}
use Rattle.ap_list.specs.Lists.{Each}
use Rattle.ap_term.specs.declared.term.Clause.{Clause}
use Rattle.ap_kernel.specs.declared.reductions.Reduction.{Reduction}
use Rattle.ap_world.specs.World.{function_of}
use Rattle.ap_kernel.specs.Reductions.{KnownClause, Reduces}
use Rattle.ap_strategy.specs.Steps.{setting_by, simplified, unrepeated}
use Rattle.ap_strategy.specs.Repeats.{unrepeated_each}
use Rattle.ap_strategy.proofs.Counted.{simplified_few}
use Rattle.ap_strategy.proofs.simplifying.simplify.Goals as goal

pub returns-clause-known : goal.returns-clause-known
returns-clause-known c =
    let D = function_of c.args.plan.now.world.entries in
    let stands : Reduces c.args.plan.now.world c.in-Some.reduction = subst (λ (o : Option Reduction). IfSome o (Reduces c.args.plan.now.world)) c.in-Some.is c.in_ok-reduction.ensures.stands in
    let moved : c.into_parts-clauses.result.1 ≡ c.in-Some.reduction.says.to = ap (λ (p : Clause × List Clause). p.1) c.into_parts-clauses.ensures in
    subst (Each (KnownClause D)) (sym (c.in_ok-without_repeats.ensures ∙ ap (unrepeated []) moved)) (unrepeated_each (KnownClause D) [] c.in-Some.reduction.says.to tt stands.says.goals)

pub returns-clause-few : goal.returns-clause-few
returns-clause-few c =
    let made : simplified (setting_by c.args.plan.now c.args.settings.now) c.args.plan.now.step_limit c.args.c ≡ Some c.in_ok-without_repeats.field-0 = search rules in
    let fits = c.known-fits in
    let few : length c.in_ok-without_repeats.field-0 ≤ 4294967295 = simplified_few (setting_by c.args.plan.now c.args.settings.now) c.args.plan.now.step_limit 4294967295 c.args.c c.in_ok-without_repeats.field-0 made (omega arith) (omega arith) in
    omega arith
