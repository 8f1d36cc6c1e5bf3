use Rattle.std.proofs.Common.{◌∙◌}
use Rattle.ap_rewrite.specs.Answering.{defs_in, setting_of, inner_of, seen_at}
use Rattle.ap_rewrite.proofs.Froms.{from_own}
use Rattle.ap_rewrite.proofs.Chained.{same_from}
use Rattle.ap_rewrite.proofs.Tested.{is_made, made_choice, closed_steps}
use Rattle.ap_rewrite.proofs.opening.open_tested.Goals as goal

pub opened-requires-clause-defined : goal.opened-requires-clause-defined
opened-requires-clause-defined g c = is_made (defs_in c.args.l.now.r.now) _ _ c.requires.choice.2

pub walk_past-requires-clause-first : goal.walk_past-requires-clause-first
walk_past-requires-clause-first g c = from_own _ _ _ _ _ c.in_ok-first.ensures.from

pub walk_past-requires-clause-choice : goal.walk_past-requires-clause-choice
walk_past-requires-clause-choice g c = made_choice _ _ _ _ _ c.in_ok-first.ensures.is c.requires.choice.2

pub returns-clause-is : goal.returns-clause-is
returns-clause-is g c =
    closed_steps (setting_of c.args.l.now.r.now) (inner_of c.args.l.now.r.now c.args.l.now.levels) c.args.mode (seen_at c.args.at.now) c.args.f.now c.as_slice.result.now (defs_in c.args.l.now.r.now) c.args.t.now c.in_ok-first.first.says.rhs c.args.test.says.lhs c.args.test.says.rhs c.args.steps.now.left _ _
    (c.as_slice.ensures ∙ c.in_ok-closed.ensures) c.in_ok-first.ensures.is
    c.walk_past.ensures.is

pub returns-clause-from : goal.returns-clause-from
returns-clause-from g c = same_from _ _ _ _ _ _ c.in_ok-first.ensures.from.lhs c.walk_past.ensures.from
