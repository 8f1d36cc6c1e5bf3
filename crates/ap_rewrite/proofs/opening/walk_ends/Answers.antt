use Rattle.ap_rewrite.specs.Answering.{setting_of, inner_of, seen_at}
use Rattle.ap_rewrite.proofs.Chained.{same_answer}
use Rattle.ap_rewrite.proofs.Walked.{ends_both, ends_none}
use Rattle.ap_rewrite.proofs.opening.walk_ends.Goals as goal

pub returns-then-way-clause-is : goal.returns-then-way-clause-is
returns-then-way-clause-is g c =
    same_answer _ _ _ _
    (ends_both (setting_of c.args.l.now.r.now) (inner_of c.args.l.now.r.now c.args.l.now.levels) c.args.way.now.mode (seen_at c.args.way.now.inner.now) c.args.way.now.taken c.args.test.says.rhs c.args.b.now c.args.c.now c.args.steps.now.left c.if-way.true)
    c.follow_both.ensures.is

pub returns-clause-is : goal.returns-clause-is
returns-clause-is g c =
    ends_none (setting_of c.args.l.now.r.now) (inner_of c.args.l.now.r.now c.args.l.now.levels) c.args.way.now.mode (seen_at c.args.way.now.inner.now) c.args.way.now.taken c.args.test.says.rhs c.args.b.now c.args.c.now c.args.steps.now.left c.if-way.false
