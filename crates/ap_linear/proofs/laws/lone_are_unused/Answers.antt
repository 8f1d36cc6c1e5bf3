use Rattle.ap_linear.proofs.Lone.{lone_unused}
use Rattle.ap_linear.proofs.Struck.{striking_safe}
use Rattle.ap_linear.proofs.laws.lone_are_unused.Goals as goal

pub returns-clause-unused : goal.returns-clause-unused
returns-clause-unused c = lone_unused

pub returns-clause-striking : goal.returns-clause-striking
returns-clause-striking c = striking_safe
