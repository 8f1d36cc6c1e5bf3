use Rattle.std.proofs.Common.{arith}
use Rattle.ap_term.proofs.Seen.{deeper}
use Rattle.ap_strategy.proofs.depth.+depth.Goals as goal

pub is_within-are_within-requires : goal.is_within-are_within-requires
is_within-are_within-requires t c = let d = deeper c.t.view_is c.in-Call.is c.as_slice.ensures in (omega (arith, c.decreases), tt)
