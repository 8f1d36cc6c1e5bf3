use Rattle.ap_plain.proofs.Within.{limits_some}
use Rattle.ap_plain.proofs.limits.Limits.new.Goals as goal

pub returns-then-revert-le100 : goal.returns-then-revert-le100
returns-then-revert-le100 c = limits_some _ _ _ _
