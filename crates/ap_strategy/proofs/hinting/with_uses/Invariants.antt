use Rattle.std.proofs.Common.{◌≡◌, ◌≤◌, length, drop}
use Rattle.ap_kernel.specs.Reductions.{Reduces}
use Rattle.ap_strategy.specs.Leads.{used_from}
use Rattle.ap_strategy.proofs.hinting.with_uses.Given as goal

-- from the clause to itself with the instances of those that stand last
abbrev pub invariant-loop-at : goal.invariant-loop-at
invariant-loop-at l = record {
  within : l.at ≤ length l.uses;
  stands : Reduces l.w l.reduction;
  used : l.reduction.says ≡ used_from l.w.entries (drop l.at l.uses) l.fn.c;
}

abbrev pub decreases-loop-at : goal.decreases-loop-at
decreases-loop-at l = l.at
