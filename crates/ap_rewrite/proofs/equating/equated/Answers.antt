use Rattle.std.proofs.Common.{Some, sym, ap, ◌∙◌}
use Rattle.ap_kernel.specs.Equations.{equation_leads}
use Rattle.ap_rewrite.proofs.Settled.{equated_said, none_said, serves_equal}
use Rattle.ap_rewrite.proofs.equating.equated.Goals as goal

pub cons_equal-requires-clause-leads : goal.cons_equal-requires-clause-leads
cons_equal-requires-clause-leads c = sym c.equation_leads-leads.ensures ∙ c.if-leads.true

pub in_mode-requires-clause-serves : goal.in_mode-requires-clause-serves
in_mode-requires-clause-serves c = serves_equal c.in_ok-first.first.says.mode c.args.mode
    (equated_said c.args.ctx.now c.args.mode c.args.t.now (equation_leads c.args.ctx.now.0 c.args.t.now) c.in_ok-first.first.says (sym c.equation_leads-leads.ensures ∙ c.if-leads.true) c.in_ok-first.ensures.made).0

pub returns-then-leads-clause-made : goal.returns-then-leads-clause-made
returns-then-leads-clause-made c = ap Some c.in_ok-q.ensures.made
    ∙ (equated_said c.args.ctx.now c.args.mode c.args.t.now (equation_leads c.args.ctx.now.0 c.args.t.now) c.in_ok-first.first.says (sym c.equation_leads-leads.ensures ∙ c.if-leads.true) c.in_ok-first.ensures.made).1

pub returns-clause-made : goal.returns-clause-made
returns-clause-made c = none_said c.args.ctx.now c.args.mode c.args.t.now (equation_leads c.args.ctx.now.0 c.args.t.now) (sym c.equation_leads-leads.ensures ∙ c.if-leads.false)
