use Rattle.std.proofs.Common.{arith}
use Rattle.ap_term.proofs.Seen.{deeper}
use Rattle.ap_term.proofs.instance.+collecting.Goals as goal

pub add_vars-add_all_vars-requires : goal.add_vars-add_all_vars-requires
add_vars-add_all_vars-requires t c = let d = deeper c.t.view_is c.in-Call.is c.as_slice-in-Call.ensures in (omega (arith, c.decreases), tt)
