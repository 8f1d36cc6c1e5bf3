use Rattle.std.proofs.Common.{ap}
use Rattle.ap_rewrite.specs.Rewriting.{led}
use Rattle.ap_rewrite.specs.Answering.{setting_of, inner_of, seen_at}
use Rattle.ap_rewrite.proofs.Froms.{from_own}
use Rattle.ap_rewrite.proofs.Chained.{led_nowhere, same_answer, same_from}
use Rattle.ap_rewrite.proofs.engines.equate.Goals as goal

pub returns-in-None-clause-is : goal.returns-in-None-clause-is
returns-in-None-clause-is g c =
    led_nowhere (setting_of c.args.l.now.r.now) (inner_of c.args.l.now.r.now c.args.l.now.levels) c.args.mode (seen_at c.args.at.now) _ c.args.steps.now.left
    (rw c.in-None.is at c.in_ok-equates.ensures.is)

pub lead-requires-clause-first : goal.lead-requires-clause-first
lead-requires-clause-first g c = from_own _ _ _ _ _ (rw c.in-Some.is at c.in_ok-equates.ensures.from)

pub returns-in-Some-clause-is : goal.returns-in-Some-clause-is
returns-in-Some-clause-is g c =
    same_answer _ _ _ _
    (ap (λ x. led (setting_of c.args.l.now.r.now) (inner_of c.args.l.now.r.now c.args.l.now.levels) c.args.mode (seen_at c.args.at.now) x c.args.steps.now.left)
    (rw c.in-Some.is at c.in_ok-equates.ensures.is))
    c.lead.ensures.is

pub returns-in-Some-clause-from : goal.returns-in-Some-clause-from
returns-in-Some-clause-from g c = same_from _ _ _ _ _ _ (rw c.in-Some.is at c.in_ok-equates.ensures.from).lhs c.lead.ensures.from
