use Rattle.std.proofs.Common.{◌∙◌}
use Rattle.ap_rewrite.specs.Answering.{setting_of, inner_of, seen_at}
use Rattle.ap_rewrite.proofs.Tested.{same_test, has_branches, past_steps}
use Rattle.ap_rewrite.proofs.opening.walk_past.Goals as goal

pub walk_on-requires-clause-choice : goal.walk_on-requires-clause-choice
walk_on-requires-clause-choice g c = same_test _ _ _ _ _ _ _ _ (c.in_ok-body.ensures ∙ c.rhs.ensures) c.requires.choice.2 c.in-If.ensures

pub returns-clause-is : goal.returns-clause-is
returns-clause-is g c =
    past_steps (setting_of c.args.l.now.r.now) (inner_of c.args.l.now.r.now c.args.l.now.levels) c.args.way.now.mode (seen_at c.args.way.now.at.now) (seen_at c.args.way.now.inner.now) c.args.first.says.rhs c.args.test.says.lhs c.in-If.b.now c.in-If.c.now c.args.test.says.rhs c.args.way.now.taken c.args.steps.now.left _ _
    (same_test _ _ _ _ _ _ _ _ (c.in_ok-body.ensures ∙ c.rhs.ensures) c.requires.choice.2 c.in-If.ensures)
    c.walk_on.ensures.is

pub unreachable-requires : goal.unreachable-requires
unreachable-requires g c = has_branches _ _ _ _ _ c.shape_of.result (c.in_ok-body.ensures ∙ c.rhs.ensures) c.requires.choice.2 c.shape_of.ensures c.in_default.not-If
