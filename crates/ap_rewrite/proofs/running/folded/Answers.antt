use Rattle.std.proofs.Common.{sym, ap, ◌∙◌}
use Rattle.ap_kernel.specs.declared.objects.Sequent.{Sequent}
use Rattle.ap_kernel.specs.declared.objects.Mode.TheVariants.{Iff}
use Rattle.ap_world.specs.Recursion.{t_constant}
use Rattle.ap_rewrite.specs.Leading.{leads_made}
use Rattle.ap_rewrite.proofs.Settled.{becomes_iff, becomes_there, becomes_says, constant_stays}
use Rattle.ap_rewrite.proofs.running.folded.Goals as goal

pub to_true-requires-clause-mode : goal.to_true-requires-clause-mode
to_true-requires-clause-mode c =
    ap (λ (s : Sequent). s.mode) c.in_ok-q.ensures.made ∙ becomes_iff c.args.mode c.args.value (sym c.becomes_true-becomes.ensures ∙ c.if-becomes.true)

pub to_true-requires-clause-constant : goal.to_true-requires-clause-constant
to_true-requires-clause-constant c =
    becomes_there c.args.mode c.args.value c.in_ok-q.q.says.rhs (ap (λ (s : Sequent). s.rhs) c.in_ok-q.ensures.made) (sym c.becomes_true-becomes.ensures ∙ c.if-becomes.true)

pub returns-then-becomes-clause-made : goal.returns-then-becomes-clause-made
returns-then-becomes-clause-made c =
    c.in_ok-truth.ensures.made ∙ ap (λ (s : Sequent). leads_made s.ctx Iff s.lhs t_constant) c.in_ok-q.ensures.made
    ∙ becomes_says c.args.ctx.now c.args.mode c.args.t.now c.args.value (sym c.becomes_true-becomes.ensures ∙ c.if-becomes.true)

pub returns-clause-made : goal.returns-clause-made
returns-clause-made c =
    c.in_ok-q.ensures.made ∙ ap (leads_made c.args.ctx.now c.args.mode c.args.t.now) (sym (constant_stays c.args.mode c.args.value (sym c.becomes_true-becomes.ensures ∙ c.if-becomes.false)))
