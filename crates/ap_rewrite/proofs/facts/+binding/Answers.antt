use Rattle.std.proofs.Common.{arith}
use Rattle.ap_term.proofs.Seen.{deeper}
use Rattle.ap_rewrite.proofs.facts.+binding.Goals as goal

pub is_bound-are_bound-requires : goal.is_bound-are_bound-requires
is_bound-are_bound-requires t c = let d = deeper c.t.view_is c.in-Call.is c.as_slice.ensures in (omega (arith, c.decreases), tt)
