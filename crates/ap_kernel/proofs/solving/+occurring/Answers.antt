use Rattle.std.proofs.Common.{arith}
use Rattle.ap_term.proofs.Seen.{deeper}
use Rattle.ap_kernel.proofs.solving.+occurring.Goals as goal

pub occurs-occurs_in-requires : goal.occurs-occurs_in-requires
occurs-occurs_in-requires t c = let d = deeper c.t.view_is c.in-Call.is c.as_slice.ensures in (omega (arith, c.decreases), tt)
