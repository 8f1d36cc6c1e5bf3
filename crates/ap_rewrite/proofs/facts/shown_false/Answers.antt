use Rattle.std.proofs.Common.{refl}
use Rattle.ap_rewrite.proofs.FactsRelieve.{false_shown}
use Rattle.ap_rewrite.proofs.facts.shown_false.Goals as goal

pub returns-clause-shown : goal.returns-clause-shown
returns-clause-shown c = false_shown c.args.w.now c.args.ctx.now c.args.a.now c.args.start.now.0 c.args.found c.in_ok-fact.fact.says (record { pairs = c.args.found.pairs; shown = c.in_ok-shown.shown })
    c.requires.facts c.requires.pairs c.requires.found refl c.in_ok-shown.ensures.stands c.in_ok-fact.ensures.made c.in_ok-shown.ensures.made
