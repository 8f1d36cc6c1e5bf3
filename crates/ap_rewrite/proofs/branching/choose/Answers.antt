use Rattle.std.proofs.Common.{ap}
use Rattle.ap_kernel.specs.declared.objects.Sequent.{Sequent}
use Rattle.ap_rewrite.proofs.Froms.{from_chosen}
use Rattle.ap_rewrite.proofs.Truths.{truth_constant}
use Rattle.ap_rewrite.proofs.branching.choose.Goals as goal

pub choose_branch-requires-clause-constant : goal.choose_branch-requires-clause-constant
choose_branch-requires-clause-constant g c = truth_constant _ _ c.requires.sign

pub returns-clause-is : goal.returns-clause-is
returns-clause-is g c = ap (λ (x : Sequent). x.rhs) c.in_ok-q.ensures.made

pub returns-clause-from : goal.returns-clause-from
returns-clause-from g c = from_chosen _ _ _ c.args.test c.args.sign c.args.b.now c.args.c.now _ c.requires.test c.in_ok-q.ensures.stands c.in_ok-q.ensures.made
