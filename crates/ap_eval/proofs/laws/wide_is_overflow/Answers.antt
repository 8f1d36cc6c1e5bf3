use Rattle.ap_eval.proofs.Overflow.{wide_overflow}
use Rattle.ap_eval.proofs.laws.wide_is_overflow.Goals as goal

pub returns : goal.returns
returns c = wide_overflow
