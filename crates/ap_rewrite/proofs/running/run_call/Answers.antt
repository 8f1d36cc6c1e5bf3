use Rattle.std.proofs.Common.{None, cond, sym, ap, ◌∙◌}
use Rattle.std.specs.Option.{option_map}
use Rattle.ap_rewrite.specs.Leading.{leads_made, plain_in}
use Rattle.ap_rewrite.specs.Rewriting.{constant_in}
use Rattle.ap_rewrite.proofs.running.run_call.Goals as goal

pub returns-then-may-clause-made : goal.returns-then-may-clause-made
returns-then-may-clause-made c =
    c.in_ok-o.ensures.made ∙ ap (λ b. option_map (leads_made c.args.ctx.now c.args.mode c.args.t.now) (cond b (option_map (constant_in c.args.mode) ((plain_in c.args.w.now c.args.theory.now).value c.args.t.now)) None))
    (sym (sym c.can_run-may.ensures ∙ c.if-may.true))

pub returns-clause-made : goal.returns-clause-made
returns-clause-made c =
    ap (λ b. option_map (leads_made c.args.ctx.now c.args.mode c.args.t.now) (cond b (option_map (constant_in c.args.mode) ((plain_in c.args.w.now c.args.theory.now).value c.args.t.now)) None))
    (sym (sym c.can_run-may.ensures ∙ c.if-may.false))
