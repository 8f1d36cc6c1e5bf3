use Rattle.std.proofs.Common.{◌≡◌, [], ◌∷◌, rules}
use Rattle.ap_strategy.specs.Steps.{setting_by}
use Rattle.ap_strategy.proofs.Grounded.{ground_lent}
use Rattle.ap_strategy.proofs.StepLeads.{reduce_says}
use Rattle.ap_strategy.proofs.simplifying.reduce.Goals as goal

pub tidy-requires-clause-ground : goal.tidy-requires-clause-ground
tidy-requires-clause-ground c = ground_lent c.world-w.result.now c.args.plan.now.world c.world-w.ensures c.requires.functions

pub returns-clause-made : goal.returns-clause-made
returns-clause-made c =
    let one : c.in_ok-tidied.tidied.says.to ≡ c.plain-item.result ∷ [] = search rules in
    reduce_says (setting_by c.args.plan.now c.args.settings.now) c.args.plan.now.step_limit c.args.c c.in_ok-copy_clause.field-0 c.plain-item.result c.in_ok-tidied.tidied.says c.in_ok-then.field-0.says
    c.in_ok-opened.field-0 c.in-Some.opened c.in_ok-tidied.ensures.made one c.in_ok-copy_clause.ensures c.in_ok-opened.ensures.made c.in-Some.is c.in_ok-then.ensures.made
