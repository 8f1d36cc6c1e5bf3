use Rattle.std.proofs.Common.{sym, ap, ◌∙◌}
use Rattle.ap_world.specs.declared.entry.Mask.{Mask}
use Rattle.ap_rewrite.specs.Leading.{leads_made, plain_in}
use Rattle.ap_rewrite.proofs.Settled.{settled_to}
use Rattle.ap_rewrite.proofs.settling.settled.Goals as goal

pub returns-clause-made : goal.returns-clause-made
returns-clause-made g c =
    c.in_ok-q.ensures.made ∙ ap (leads_made c.args.ctx.now c.args.mode c.args.t.now)
    (sym (settled_to (plain_in c.args.w.now c.args.w.now.theory) c.args.mode c.args.ctx.now.0 c.args.t.now c.in_ok-mask.mask c.settled_value-found.result c.in_ok-mask.ensures.made c.settled_value-found.ensures.is))

pub settled_to-requires-clause-exact : goal.settled_to-requires-clause-exact
settled_to-requires-clause-exact g c = ap (λ (m : Mask). m.0) c.in_ok-mask.ensures.made
