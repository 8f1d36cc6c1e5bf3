use Rattle.std.proofs.Common.{arith}
use Rattle.ap_term.proofs.Seen.{deeper}
use Rattle.ap_term.proofs.counts.+counting.Goals as goal

pub walked_counts-counts_of-requires : goal.walked_counts-counts_of-requires
walked_counts-counts_of-requires t c = let d = deeper c.t.view_is c.in-Call.is c.as_slice.ensures in (omega (arith, c.decreases), tt)
