use Rattle.std.proofs.Common.{◌↔◌, length}
use Rattle.ap_kernel.specs.Applying.{AllLead}
use Rattle.ap_kernel.proofs.relieving.all_lead.Given as goal

-- what is left leads exactly where all does
abbrev pub invariant-loop-left : goal.invariant-loop-left
invariant-loop-left l = AllLead l.ctx l.s.0 l.left l.shown ↔ AllLead l.ctx l.s.0 l.hs l.qs

abbrev pub decreases-loop-left : goal.decreases-loop-left
decreases-loop-left l = length l.left
