use Rattle.std.proofs.Common.{ap, true, false}
use Rattle.ap_kernel.specs.declared.objects.Sequent.{Sequent}
use Rattle.ap_rewrite.proofs.Froms.{from_joined, under_facts}
use Rattle.ap_rewrite.proofs.rows.join.Goals as goal

pub branch-r-requires-clause-yes_facts : goal.branch-r-requires-clause-yes_facts
branch-r-requires-clause-yes_facts g c = under_facts c.args.test c.args.yes c.args.ctx.now true c.requires.test.ctx c.requires.yes.ctx

pub branch-r-requires-clause-no_facts : goal.branch-r-requires-clause-no_facts
branch-r-requires-clause-no_facts g c = under_facts c.args.test c.args.no c.args.ctx.now false c.requires.test.ctx c.requires.no.ctx

pub returns-clause-is : goal.returns-clause-is
returns-clause-is g c = ap (λ (x : Sequent). x.rhs) c.in_ok-q.ensures.made

pub returns-clause-from : goal.returns-clause-from
returns-clause-from g c = from_joined _ _ _ c.args.test c.args.yes c.args.no _ c.requires.test c.in_ok-q.ensures.stands c.in_ok-q.ensures.made
