use Rattle.std.proofs.Common.{◌≡◌, ap, subst, ◌∙◌}
use Rattle.ap_list.specs.Lists.{Each}
use Rattle.ap_walk.specs.Visits.{Tells}
use Rattle.ap_walk.specs.Walks.{full}
use Rattle.ap_attempt.specs.Drops.{IsLicensed}
use Rattle.ap_attempt.proofs.Known.{is_few, is_walked, ok_as}
use Rattle.ap_attempt.proofs.walking.walk_by.Given.{Over}
use Rattle.ap_attempt.proofs.walking.walk_by.Goals as goal

tells : (g : Over) (task : g.row.S-Task.Denot) → Tells (g.S.Step.step_of task).act.process (g.S.Step.step_of task).out
tells g = (g.met.S.Step g.world.𝓛 g.world.𝓜 g.world.𝓡 ((λ s x. x), (λ x. x), (λ x. x), λ x. x)).tells

pub returns-clause-walked : goal.returns-clause-walked
returns-clause-walked g c =
    ok_as c.walk_shared.result _ _
    (λ end is. is_walked g.S.Step.step_of g.S.Step.depth (tells g) c.args.rule c.args.task.now end.0 (is ∙ ap (full g.S.Step.step_of g.S.Step.depth c.args.rule) c.in_ok-task.ensures)) c.walk_shared.ensures.walked

pub returns-clause-few : goal.returns-clause-few
returns-clause-few g c =
    ok_as c.walk_shared.result _ _
    (λ end is. is_few g.S.Step.step_of g.S.Step.depth (tells g) c.args.rule c.args.task.now end.0 (is ∙ ap (full g.S.Step.step_of g.S.Step.depth c.args.rule) c.in_ok-task.ensures)) c.walk_shared.ensures.walked

pub returns-clause-licensed : goal.returns-clause-licensed
returns-clause-licensed g c =
    ok_as c.walk_shared.result _ _
    (λ end all. subst (λ (t : g.row.S-Task.Denot). Each (IsLicensed g.S.Step.step_of g.S.Step.depth g.S.Step.name (record { root = t; rule = c.args.rule; walked = end.0 })) end.1) c.in_ok-task.ensures all)
    c.walk_shared.ensures.licensed
