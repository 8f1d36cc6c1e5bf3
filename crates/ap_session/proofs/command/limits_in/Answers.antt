use Rattle.ap_session.proofs.Commanding.{limits_same}
use Rattle.ap_session.proofs.command.limits_in.Goals as goal

pub returns : goal.returns
returns c = limits_same c.new.result c.unwrap_or-steps.result c.unwrap_or-goals.result c.unwrap_or-revert.result _ _ _ c.new.ensures c.unwrap_or-steps.ensures c.unwrap_or-goals.ensures c.unwrap_or-revert.ensures
