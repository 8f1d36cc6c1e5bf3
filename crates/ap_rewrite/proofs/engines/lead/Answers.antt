use Rattle.std.proofs.Common.{sym, ap, ◌∙◌}
use Rattle.ap_kernel.specs.Opening.{is_quoted}
use Rattle.ap_rewrite.specs.Answering.{setting_of, inner_of, seen_at}
use Rattle.ap_rewrite.proofs.Chained.{led_to, led_on, answered_is, answered_from}
use Rattle.ap_rewrite.proofs.engines.lead.Goals as goal

pub returns-then-is_quoted-clause-is : goal.returns-then-is_quoted-clause-is
returns-then-is_quoted-clause-is g c =
    led_to (setting_of c.args.l.now.r.now) (inner_of c.args.l.now.r.now c.args.l.now.levels) c.args.mode (seen_at c.args.at.now) c.args.first.says.rhs c.args.steps.now.left
    (sym (ap is_quoted c.rhs.ensures) ∙ sym c.is_quoted.ensures ∙ c.if-is_quoted.true)

pub returns-clause-is : goal.returns-clause-is
returns-clause-is g c =
    answered_is _ _ _ _ c.answered.ensures c.in_ok-found.ensures.is
    ∙ led_on (setting_of c.args.l.now.r.now) (inner_of c.args.l.now.r.now c.args.l.now.levels) c.args.mode (seen_at c.args.at.now) c.args.first.says.rhs c.args.steps.now.left
    (sym (ap is_quoted c.rhs.ensures) ∙ sym c.is_quoted.ensures ∙ c.if-is_quoted.false)

pub returns-clause-from : goal.returns-clause-from
returns-clause-from g c = answered_from _ _ _ _ _ _ c.answered.ensures c.in_ok-found.ensures.from
