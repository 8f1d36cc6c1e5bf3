use Rattle.std.proofs.Common.{ap, subst, sym}
use Rattle.ap_kernel.specs.declared.objects.Sequent.{Sequent}
use Rattle.ap_kernel.specs.declared.objects.Mode.{Mode}
use Rattle.ap_rules.specs.Made.{rule_in}
use Rattle.ap_rewrite.specs.Leading.{Serves}
use Rattle.ap_rewrite.proofs.Applied.{rule_serves, part_relieved, of_part, any_mode_made}
use Rattle.ap_rewrite.proofs.Froms.{from_made, right_made}
use Rattle.ap_rewrite.proofs.rules.applied.Goals as goal

pub apply_theorem-requires-clause-relieved : goal.apply_theorem-requires-clause-relieved
apply_theorem-requires-clause-relieved g c = part_relieved _ _ _ (rule_in c.args.g.now) _ c.requires.rule.part c.requires.lead

pub in_mode-requires-clause-serves : goal.in_mode-requires-clause-serves
in_mode-requires-clause-serves g c =
    subst (λ (m : Mode). Serves m c.args.mode) (sym (ap (λ (x : Sequent). x.mode) (of_part _ (rule_in c.args.g.now) _ c.requires.rule.part c.in_ok-q.ensures.made)))
    (rule_serves c.args.mode (rule_in c.args.g.now) c.requires.fits)

pub returns-clause-is : goal.returns-clause-is
returns-clause-is g c =
    right_made _ _ _ _ _ (any_mode_made _ _ _ _ _ _ _ (of_part _ (rule_in c.args.g.now) _ c.requires.rule.part c.in_ok-q.ensures.made) c.in_ok-answer.ensures.made)

pub returns-clause-from : goal.returns-clause-from
returns-clause-from g c =
    from_made _ _ _ _ _ _ c.in_ok-answer.ensures.stands
    (any_mode_made _ _ _ _ _ _ _ (of_part _ (rule_in c.args.g.now) _ c.requires.rule.part c.in_ok-q.ensures.made) c.in_ok-answer.ensures.made)
