use Rattle.std.proofs.Common.{sym, ◌∙◌}
use Rattle.ap_rewrite.proofs.Froms.{from_at}
use Rattle.ap_rewrite.proofs.Walked.{led_parts}
use Rattle.ap_rewrite.proofs.opening.step_down.Goals as goal

pub choose-requires-clause-yes : goal.choose-requires-clause-yes
choose-requires-clause-yes g c = (led_parts _ _ _ _ _ _ _ _ c.requires.sofar c.requires.choice).1

pub choose-requires-clause-no : goal.choose-requires-clause-no
choose-requires-clause-no g c = (led_parts _ _ _ _ _ _ _ _ c.requires.sofar c.requires.choice).2

pub follow-requires-clause-second : goal.follow-requires-clause-second
follow-requires-clause-second g c = from_at _ _ _ _ _ _ (sym c.requires.choice) c.in_ok-branch.ensures.from

pub returns-clause-is : goal.returns-clause-is
returns-clause-is g c = c.in_ok-next.ensures.is ∙ c.in_ok-branch.ensures.is
