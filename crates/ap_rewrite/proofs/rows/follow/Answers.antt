use Rattle.std.proofs.Common.{ap}
use Rattle.ap_kernel.specs.declared.objects.Sequent.{Sequent}
use Rattle.ap_rewrite.proofs.Froms.{from_followed}
use Rattle.ap_rewrite.proofs.rows.follow.Goals as goal

pub returns-clause-is : goal.returns-clause-is
returns-clause-is g c = ap (λ (x : Sequent). x.rhs) c.in_ok-q.ensures.made

pub returns-clause-from : goal.returns-clause-from
returns-clause-from g c = from_followed _ _ _ c.args.a c.args.b _ c.requires.first c.in_ok-q.ensures.stands c.in_ok-q.ensures.made
