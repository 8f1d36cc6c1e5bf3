use Rattle.std.proofs.Common.{◌∙◌}
use Rattle.ap_rewrite.specs.Answering.{setting_of, inner_of, seen_at}
use Rattle.ap_rewrite.proofs.Chained.{same_answer}
use Rattle.ap_rewrite.proofs.Opened.{closed_within}
use Rattle.ap_rewrite.proofs.opening.open_recursive.Goals as goal

pub returns-clause-is : goal.returns-clause-is
returns-clause-is g c =
    same_answer _ _ _ _
    (closed_within (setting_of c.args.l.now.r.now) (inner_of c.args.l.now.r.now c.args.l.now.levels) c.args.mode (seen_at c.args.at.now) c.args.f.now c.args.first.says.lhs c.args.first.says.rhs c.args.steps.now.left c.as_slice.result.now
    (c.as_slice.ensures ∙ c.in_ok-closed.ensures))
    c.open_within.ensures.is
