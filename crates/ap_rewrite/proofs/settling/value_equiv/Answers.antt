use Rattle.std.proofs.Common.{ap, ◌∙◌}
use Rattle.ap_kernel.specs.declared.objects.Sequent.{Sequent}
use Rattle.ap_rewrite.specs.Leading.{leads_made}
use Rattle.ap_rewrite.proofs.Settled.{serves_equal}
use Rattle.ap_rewrite.proofs.settling.value_equiv.Goals as goal

pub in_mode-requires-clause-serves : goal.in_mode-requires-clause-serves
in_mode-requires-clause-serves c = serves_equal c.in_ok-first.first.says.mode c.args.mode (ap (λ (s : Sequent). s.mode) c.in_ok-first.ensures.made)

pub returns-clause-made : goal.returns-clause-made
returns-clause-made c = c.in_ok-q.ensures.made ∙ ap (λ (s : Sequent). leads_made s.ctx c.args.mode s.lhs s.rhs) c.in_ok-first.ensures.made
