use Rattle.std.proofs.Common.{ap, ◌∙◌}
use Rattle.ap_term.specs.declared.term.Term.{Term}
use Rattle.ap_world.specs.Clauses.{not_of}
use Rattle.ap_world.specs.Recursion.{t_constant}
use Rattle.ap_kernel.specs.declared.objects.Sequent.{Sequent}
use Rattle.ap_kernel.specs.declared.objects.Mode.TheVariants.{Equal}
use Rattle.ap_rewrite.specs.Leading.{leads_made}
use Rattle.ap_rewrite.proofs.Settled.{trans_said}
use Rattle.ap_rewrite.proofs.facts.not_nil.Goals as goal

pub nil_turned-requires-clause-negation : goal.nil_turned-requires-clause-negation
nil_turned-requires-clause-negation c = c.rhs.ensures ∙ ap (λ (s : Sequent). s.rhs) c.in_ok-first.ensures.made ∙ ap not_of c.requires.nil

pub returns-clause-made : goal.returns-clause-made
returns-clause-made c =
    c.in_ok-r.ensures.made
    ∙ trans_said c.args.ctx.now Equal (not_of c.args.q.says.lhs) (not_of c.args.q.says.rhs) t_constant c.in_ok-first.first.says c.in_ok-more.more.says c.in_ok-first.ensures.made
    (c.in_ok-more.ensures.made
    ∙ ap (λ (u : Term). leads_made c.args.ctx.now Equal u t_constant) (c.rhs.ensures ∙ ap (λ (s : Sequent). s.rhs) c.in_ok-first.ensures.made))
