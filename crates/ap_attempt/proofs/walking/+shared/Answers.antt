-- A walk that follows an only child is the walk of the task, and the notes from below it are licensed in that.
use Rattle.std.proofs.Common.{◌<◌, sym, ap, ◌∙◌}
use Rattle.ap_list.specs.Lists.{Each}
use Rattle.ap_walk.specs.declared.act.Stepped.{Stepped}
use Rattle.ap_walk.specs.Visits.{Tells, out_children}
use Rattle.ap_attempt.proofs.Known.{lone_walk, walk_above}
use Rattle.ap_attempt.proofs.Licensing.{each_licensed_above}
use Rattle.ap_attempt.proofs.walking.+shared.Given.{Over}
use Rattle.ap_attempt.proofs.walking.+shared.Goals as goal

tells : (g : Over) (task : g.row.S-Task.Denot) → Tells (g.S.Step.step_of task).act.process (g.S.Step.step_of task).out
tells g = (g.met.S.Step g.world.𝓛 g.world.𝓜 g.world.𝓡 ((λ s x. x), (λ x. x), (λ x. x), λ x. x)).tells

deeper : (g : Over) (task : g.row.S-Task.Denot) → Each (λ c. g.S.Step.depth c < g.S.Step.depth task) (out_children (g.S.Step.step_of task).out)
deeper g = (g.met.S.Step g.world.𝓛 g.world.𝓜 g.world.𝓡 ((λ s x. x), (λ x. x), (λ x. x), λ x. x)).deeper

pub follow-returns-in_default-clause-walked : goal.follow-returns-in_default-clause-walked
follow-returns-in_default-clause-walked g t c =
    lone_walk g.S.Step.step_of g.S.Step.depth (tells g) c.args.rule (deeper g) c.args.task c.args.stepped _ _ _ _ _
    c.requires.stepped c.mark_and_children-mark.ensures.mark c.mark_and_children-mark.ensures.children c.in_default.ensures.none c.new-marks.ensures c.in_ok-push.ensures.ok c.walked.ensures

pub follow-returns-clause-walked : goal.follow-returns-clause-walked
follow-returns-clause-walked g t c =
    walk_above g.S.Step.step_of g.S.Step.depth (tells g) c.args.rule (deeper g) c.args.task c.in-Some.child c.args.stepped _ _ _ _ _ c.in_ok-below.below _
    c.requires.stepped c.mark_and_children-mark.ensures.mark c.mark_and_children-mark.ensures.children c.in-Some.ensures.some c.new-marks.ensures c.in_ok-push.ensures.ok c.in_ok-below.ensures.walked
    c.in_ok-append.ensures.ok c.walked-2.ensures

pub follow-returns-clause-licensed : goal.follow-returns-clause-licensed
follow-returns-clause-licensed g t c =
    each_licensed_above g.S.Step.step_of g.S.Step.depth g.S.Step.name c.args.rule c.args.task c.in-Some.child c.in_ok-below.below c.walked-2.result c.in_ok-below.notes
    (ap (λ (s : Stepped g.row.S-Task.Denot). out_children s.out) (sym c.requires.stepped) ∙ (sym c.mark_and_children-mark.ensures.children ∙ c.in-Some.ensures.some)) c.in_ok-below.ensures.licensed
