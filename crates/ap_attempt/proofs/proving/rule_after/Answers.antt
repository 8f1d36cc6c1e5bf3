use Rattle.std.proofs.Common.{refl}
use Rattle.ap_attempt.proofs.Lowering.{rule_for_some}
use Rattle.ap_attempt.proofs.proving.rule_after.Goals as goal

pub returns : goal.returns
returns c = rule_for_some c.args.rule _ _ _ refl refl refl (c.saturating_sub-goal_limit.ensures)
