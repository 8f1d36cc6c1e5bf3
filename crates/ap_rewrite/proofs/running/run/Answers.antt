use Rattle.std.proofs.Common.{ap, ◌∙◌}
use Rattle.std.specs.Option.{option_map}
use Rattle.ap_term.proofs.Seen.{seen}
use Rattle.ap_rewrite.specs.Leading.{leads_made}
use Rattle.ap_rewrite.proofs.Settled.{run_says}
use Rattle.ap_rewrite.proofs.running.run.Goals as goal

pub returns-in_ok-o-in-Call-clause-made : goal.returns-in_ok-o-in-Call-clause-made
returns-in_ok-o-in-Call-clause-made c = λ g us q.
    c.in_ok-o-in-Call.ensures.made ∙ ap (option_map (leads_made c.args.ctx.now c.args.mode c.args.t.now))
    (run_says c.args.w.now c.args.theory.now c.args.mode c.in-Call.f g c.args.t.now _ us (seen c.t.view_is c.in-Call.is) q)
