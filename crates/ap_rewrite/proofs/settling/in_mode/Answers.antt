use Rattle.std.proofs.Common.{◌&&◌, not, sym, ap, ◌∙◌}
use Rattle.ap_kernel.specs.declared.objects.Mode.{Mode}
use Rattle.ap_rewrite.specs.Leading.{leads_made}
use Rattle.ap_rewrite.specs.Rewriting.{is_iff}
use Rattle.ap_rewrite.proofs.Settled.{same_mode, weaker_is, serves_same}
use Rattle.ap_rewrite.proofs.settling.in_mode.Goals as goal

pub weaken_mode-requires-clause-mode : goal.weaken_mode-requires-clause-mode
weaken_mode-requires-clause-mode c =
    sym c.mode-has.ensures ∙ (weaker_is c.mode-has.result c.args.mode (sym c.is_weaker-weaker.ensures ∙ c.if-weaker.true)).0

pub returns-then-weaker-clause-made : goal.returns-then-weaker-clause-made
returns-then-weaker-clause-made c =
    c.in_ok-r.ensures.made ∙ ap (λ (m : Mode). leads_made c.args.q.says.ctx m c.args.q.says.lhs c.args.q.says.rhs)
    (sym (weaker_is c.mode-has.result c.args.mode (sym c.is_weaker-weaker.ensures ∙ c.if-weaker.true)).1)

pub returns-clause-made : goal.returns-clause-made
returns-clause-made c =
    same_mode c.args.q.says c.args.mode (serves_same c.args.q.says.mode c.args.mode c.requires.serves
    (ap (λ m. is_iff c.args.mode && not (is_iff m)) (sym c.mode-has.ensures) ∙ sym c.is_weaker-weaker.ensures ∙ c.if-weaker.false))
