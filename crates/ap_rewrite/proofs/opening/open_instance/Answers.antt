use Rattle.std.proofs.Common.{sym, ◌∙◌}
use Rattle.ap_rewrite.specs.Answering.{setting_of, inner_of, seen_at}
use Rattle.ap_rewrite.proofs.Chained.{answered_is, answered_from, same_answer}
use Rattle.ap_rewrite.proofs.Opened.{recurring, plain}
use Rattle.ap_rewrite.proofs.opening.open_instance.Goals as goal

pub returns-then-is_some-clause-is : goal.returns-then-is_some-clause-is
returns-then-is_some-clause-is g c =
    same_answer _ _ _ _
    (recurring (setting_of c.args.l.now.r.now) (inner_of c.args.l.now.r.now c.args.l.now.levels) c.args.mode (seen_at c.args.at.now) c.args.f.now c.args.first.says.lhs c.args.first.says.rhs c.args.steps.now.left c.args.g.now (sym c.is_some.ensures ∙ c.if-is_some.true))
    c.open_recursive.ensures.is

pub returns-clause-is : goal.returns-clause-is
returns-clause-is g c =
    answered_is _ _ _ _ c.answered.ensures c.in_ok-found.ensures.is
    ∙ plain (setting_of c.args.l.now.r.now) (inner_of c.args.l.now.r.now c.args.l.now.levels) c.args.mode (seen_at c.args.at.now) c.args.f.now c.args.first.says.lhs c.args.first.says.rhs c.args.steps.now.left c.args.g.now (sym c.is_some.ensures ∙ c.if-is_some.false)

pub returns-clause-from : goal.returns-clause-from
returns-clause-from g c = answered_from _ _ _ _ _ _ c.answered.ensures c.in_ok-found.ensures.from
