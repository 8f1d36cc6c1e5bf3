use Rattle.std.proofs.Common.{arith}
use Rattle.ap_term.proofs.Seen.{deeper}
use Rattle.ap_strategy.proofs.fresh.+renewing.Goals as goal

pub fresh_term-fresh_terms-requires : goal.fresh_term-fresh_terms-requires
fresh_term-fresh_terms-requires t c = let d = deeper c.t.view_is c.in-Call.is c.as_slice.ensures in (omega (arith, c.decreases), tt)
