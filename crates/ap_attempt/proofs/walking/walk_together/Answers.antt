use Rattle.std.proofs.Common.{◌<◌}
use Rattle.ap_list.specs.Lists.{Each}
use Rattle.ap_walk.specs.Visits.{Tells, out_children}
use Rattle.ap_attempt.proofs.Known.{ok_as}
use Rattle.ap_attempt.proofs.Licensing.{drops_licensed}
use Rattle.ap_attempt.proofs.walking.walk_together.Given.{Over}
use Rattle.ap_attempt.proofs.walking.walk_together.Goals as goal

tells : (g : Over) (task : g.row.S-Task.Denot) → Tells (g.S.Step.step_of task).act.process (g.S.Step.step_of task).out
tells g = (g.met.S.Step g.world.𝓛 g.world.𝓜 g.world.𝓡 ((λ s x. x), (λ x. x), (λ x. x), λ x. x)).tells

deeper : (g : Over) (task : g.row.S-Task.Denot) → Each (λ c. g.S.Step.depth c < g.S.Step.depth task) (out_children (g.S.Step.step_of task).out)
deeper g = (g.met.S.Step g.world.𝓛 g.world.𝓜 g.world.𝓡 ((λ s x. x), (λ x. x), (λ x. x), λ x. x)).deeper

pub returns-clause-licensed : goal.returns-clause-licensed
returns-clause-licensed g c =
    ok_as c.finish.result _ _
    (λ end ends. drops_licensed g.S.Step.step_of g.S.Step.depth g.S.Step.name (tells g) (deeper g) _ _ _ end.0 end.1 c.in_ok-state.ensures.done.1 c.in_ok-state.ensures.done.2 c.recall_allowed.ensures ends.1)
    c.finish.ensures
