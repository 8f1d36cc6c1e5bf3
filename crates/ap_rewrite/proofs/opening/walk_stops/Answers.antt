use Rattle.std.proofs.Common.{◌∙◌}
use Rattle.ap_rewrite.specs.Answering.{inner_of, seen_at}
use Rattle.ap_rewrite.proofs.Chained.{answered_is, answered_from}
use Rattle.ap_rewrite.proofs.Walked.{leaf_none, leaf_there}
use Rattle.ap_rewrite.proofs.opening.walk_stops.Goals as goal

pub returns-then-not-way-clause-is : goal.returns-then-not-way-clause-is
returns-then-not-way-clause-is g c =
    leaf_none (inner_of c.args.l.now.r.now c.args.l.now.levels) c.args.way.now.mode (seen_at c.args.way.now.at.now) c.args.sofar.says.rhs c.args.way.now.taken c.args.steps.now.left c.if-not-way.true

pub returns-clause-is : goal.returns-clause-is
returns-clause-is g c =
    answered_is _ _ _ _ c.answered.ensures c.in_ok-found.ensures.is
    ∙ leaf_there (inner_of c.args.l.now.r.now c.args.l.now.levels) c.args.way.now.mode (seen_at c.args.way.now.at.now) c.args.sofar.says.rhs c.args.way.now.taken c.args.steps.now.left c.if-not-way.false

pub returns-clause-from : goal.returns-clause-from
returns-clause-from g c = answered_from _ _ _ _ _ _ c.answered.ensures c.in_ok-found.ensures.from
