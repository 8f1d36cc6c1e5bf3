use Rattle.std.proofs.Common.{rules}
use Rattle.ap_rewrite.specs.Answering.{defs_in, setting_of}
use Rattle.ap_rewrite.proofs.Advanced.{read_is, read_known, read_within, read_got, read_fits}
use Rattle.ap_rewrite.proofs.simplifying.literal_left.Goals as goal

pub literal_at-requires-clause-clause : goal.literal_at-requires-clause-clause
literal_at-requires-clause-clause g c = read_known _ _ _ c.requires.place.one (search rules) (defs_in c.args.r.now) c.requires.stands.says.goals

pub literal_at-requires-clause-place : goal.literal_at-requires-clause-place
literal_at-requires-clause-place g c = read_within _ _ _ c.requires.place.one (search rules) c.args.place c.requires.place.within

pub returns-clause-is : goal.returns-clause-is
returns-clause-is g c = λ us u to at. read_got _ us _ to (search rules) (setting_of c.args.r.now) _ c.args.place c.args.steps.now.left _ u c.in_ok-found.ensures.is at

pub returns-clause-fits : goal.returns-clause-fits
returns-clause-fits g c =
    read_fits c.args.so_far.now.says c.requires.place.literals _ c.args.place c.in_ok-found.found c.requires.place.one (read_is _ _ _ c.requires.place.one (search rules)) c.in_ok-found.ensures.place c.in_ok-found.ensures.facts
