use Rattle.std.proofs.Common.{ap, ◌∙◌}
use Rattle.ap_table.specs.Settled.{split_count}
use Rattle.ap_walk.specs.Visits.{Visit}
use Rattle.ap_table.proofs.Splitting.{told_count, no_mark_none}
use Rattle.ap_table.proofs.marking.child_count.Goals as goal

pub returns-in_default : goal.returns-in_default
returns-in_default g c = λ t e. absurd (no_mark_none g.S.Step.step_of g.S.Step.depth g.met.S.Step.tells g.met.S.Step.deeper c.args.rule t c.args.walked.now e c.in_default.ensures.value)

pub returns : goal.returns
returns g c = λ t e.
    c.split_count.ensures ∙ (ap (λ (v : Visit g.row.S-Task.Denot). split_count v.act.process v.children) c.mark.view_is
    ∙ told_count g.S.Step.step_of g.S.Step.depth g.met.S.Step.tells g.met.S.Step.deeper c.args.rule t c.args.walked.now _ e c.in-Some.ensures.value)
