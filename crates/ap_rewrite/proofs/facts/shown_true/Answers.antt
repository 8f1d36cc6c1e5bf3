use Rattle.std.proofs.lemmas.Option.{slice_get_within}
use Rattle.ap_rewrite.proofs.FactsRelieve.{true_shown}
use Rattle.std.proofs.Common.{true, refl}
use Rattle.ap_rewrite.proofs.facts.shown_true.Goals as goal

pub by_fact-requires-clause-place : goal.by_fact-requires-clause-place
by_fact-requires-clause-place c = slice_get_within c.args.ctx.now.0 c.args.found.place (c.requires.found.fact, true) c.requires.found.at

pub returns-clause-shown : goal.returns-clause-shown
returns-clause-shown c = true_shown c.args.w.now c.args.ctx.now c.args.h.now c.args.start.now.0 c.args.found (record { pairs = c.args.found.pairs; shown = c.in_ok-shown.shown })
    c.requires.facts c.requires.pairs c.requires.found refl c.in_ok-shown.ensures.stands c.in_ok-shown.ensures.made
