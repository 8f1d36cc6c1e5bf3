use Rattle.std.proofs.Common.{arith}
use Rattle.ap_term.proofs.Seen.{deeper}
use Rattle.ap_linear.proofs.fitting.+fitting.Goals as goal

pub term_fits-terms_fit-requires : goal.term_fits-terms_fit-requires
term_fits-terms_fit-requires t c = let d = deeper c.t.view_is c.in-Call.is c.as_slice.ensures in (omega (arith, c.decreases), tt)
