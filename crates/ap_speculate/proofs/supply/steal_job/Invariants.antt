use Rattle.std.proofs.Common.{◌≡◌}
use Rattle.ap_speculate.specs.Sides.{sided}
use Rattle.ap_speculate.proofs.supply.steal_job.Given as goal

abbrev pub invariant-loop-dealer : goal.invariant-loop-dealer
invariant-loop-dealer g l = sided l.dealer-items ≡ sided l.fn.others.items
