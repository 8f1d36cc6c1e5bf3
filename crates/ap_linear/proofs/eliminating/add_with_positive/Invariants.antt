use Rattle.std.proofs.Common.{◌≡◌, ◌≤◌, ◌++◌, length, take}
use Rattle.ap_linear.specs.Ranked.{with_positive}
use Rattle.ap_linear.proofs.eliminating.add_with_positive.Given as goal

-- the rows so far, and those of what is left, up to 64
abbrev pub invariant-loop-left : goal.invariant-loop-left
invariant-loop-left l = record {
  kept : length l.out ≤ 64;
  rows : take 64 (l.out ++ with_positive l.atoms l.rank l.left l.rows) ≡ take 64 (l.fn.out ++ with_positive l.atoms l.rank l.ps l.rows);
}

abbrev pub decreases-loop-left : goal.decreases-loop-left
decreases-loop-left l = length l.left
