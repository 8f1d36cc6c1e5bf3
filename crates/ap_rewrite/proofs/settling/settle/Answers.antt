use Rattle.std.proofs.Common.{None, Some, sym, ap, ◌∙◌}
use Rattle.std.specs.Option.{option_map}
use Rattle.ap_world.specs.declared.entry.Mask.{Mask}
use Rattle.ap_rewrite.specs.Leading.{leads_made, plain_in}
use Rattle.ap_rewrite.specs.Rewriting.{settled}
use Rattle.ap_rewrite.proofs.Settled.{settled_to, changed_not, changed_said, same_stands}
use Rattle.ap_rewrite.proofs.settling.settle.Goals as goal

pub returns-in-None-clause-made : goal.returns-in-None-clause-made
returns-in-None-clause-made g c =
    let S = plain_in c.args.w.now c.args.w.now.theory in
    ap (option_map (leads_made c.args.ctx.now c.args.mode c.args.t.now)) (sym (changed_not c.args.t.now (settled S c.args.mode c.args.ctx.now.0 c.args.t.now)
    (sym (settled_to S c.args.mode c.args.ctx.now.0 c.args.t.now c.in_ok-mask.mask None c.in_ok-mask.ensures.made c.in-None.ensures.is))))

pub returns-in_ok-q-in-Some-clause-made : goal.returns-in_ok-q-in-Some-clause-made
returns-in_ok-q-in-Some-clause-made g c =
    let S = plain_in c.args.w.now c.args.w.now.theory in
    changed_said c.args.ctx.now c.args.mode c.args.t.now (settled S c.args.mode c.args.ctx.now.0 c.args.t.now) c.in_ok-q-in-Some.q.says _
    (c.in_ok-q-in-Some.ensures.made ∙ ap (leads_made c.args.ctx.now c.args.mode c.args.t.now)
    (sym (settled_to S c.args.mode c.args.ctx.now.0 c.args.t.now c.in_ok-mask.mask (Some c.in-Some.value) c.in_ok-mask.ensures.made c.in-Some.ensures.is)))
    c.changed-other.ensures.is

pub returns-in_ok-q-in-Some-clause-stands : goal.returns-in_ok-q-in-Some-clause-stands
returns-in_ok-q-in-Some-clause-stands g c = same_stands c.args.w.now c.changed-other.result c.in_ok-q-in-Some.q c.changed-other.ensures.same c.in_ok-q-in-Some.ensures.stands

pub typed-requires-clause-exact : goal.typed-requires-clause-exact
typed-requires-clause-exact g c = ap (λ (m : Mask). m.0) c.in_ok-mask.ensures.made
