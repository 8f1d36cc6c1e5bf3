use Rattle.std.proofs.Common.{arith}
use Rattle.ap_term.proofs.Seen.{deeper}
use Rattle.ap_term.proofs.terms.+sizing.Goals as goal

pub walked_size-sizes-requires : goal.walked_size-sizes-requires
walked_size-sizes-requires t c = let d = deeper c.t.view_is c.in-Call.is c.as_slice.ensures in (omega (arith, c.decreases), tt)
