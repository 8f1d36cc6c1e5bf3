use Rattle.std.proofs.Common.{ap}
use Rattle.ap_rewrite.specs.Answering.{steps_after}
use Rattle.ap_rewrite.proofs.rewriting.rewrite.Goals as goal

pub returns-in_default-clause-steps : goal.returns-in_default-clause-steps
returns-in_default-clause-steps g c = ap steps_after (rw c.in_default.is at c.in_ok-q.ensures.is)

pub returns-clause-steps : goal.returns-clause-steps
returns-clause-steps g c = ap steps_after (rw c.in-Some.is at c.in_ok-q.ensures.is)
