use Rattle.std.proofs.Common.{sym, ◌∙◌}
use Rattle.ap_rewrite.proofs.Froms.{from_at}
use Rattle.ap_rewrite.proofs.Chained.{answered_some, answered_out}
use Rattle.ap_rewrite.proofs.Walked.{led_parts}
use Rattle.ap_rewrite.proofs.opening.follow_both.Goals as goal

pub both_within-requires-clause-term : goal.both_within-requires-clause-term
both_within-requires-clause-term g c = c.rhs.ensures ∙ c.requires.choice

pub both_within-requires-clause-yes : goal.both_within-requires-clause-yes
both_within-requires-clause-yes g c = (led_parts _ _ _ _ _ _ _ _ c.requires.sofar c.requires.choice).1

pub both_within-requires-clause-no : goal.both_within-requires-clause-no
both_within-requires-clause-no g c = (led_parts _ _ _ _ _ _ _ _ c.requires.sofar c.requires.choice).2

pub returns-in_default-clause-is : goal.returns-in_default-clause-is
returns-in_default-clause-is g c = answered_out _ (rw c.in_default.is at c.in_ok-more.ensures.is)

pub follow-requires-clause-second : goal.follow-requires-clause-second
follow-requires-clause-second g c = from_at _ _ _ _ _ _ (sym c.requires.choice) (rw c.in-Some.is at c.in_ok-more.ensures.from)

pub returns-clause-is : goal.returns-clause-is
returns-clause-is g c = answered_some _ _ _ _ c.in_ok-q.ensures.is (rw c.in-Some.is at c.in_ok-more.ensures.is)
