use Rattle.std.proofs.Common.{◌≡◌, ◌≤◌, ◌<◌, ◌++◌, length, take, unsigned_abs}
use Rattle.ap_linear.specs.Ranked.{coefficient, with_negative}
use Rattle.ap_linear.proofs.eliminating.add_with_negative.Given as goal

-- the rows so far, and those of what is left, up to 64
abbrev pub invariant-loop-left : goal.invariant-loop-left
invariant-loop-left l = record {
  kept : length l.out ≤ 64;
  least : 0 < l.c;
  is : l.c ≡ unsigned_abs (coefficient l.rank l.p);
  rows : take 64 (l.out ++ with_negative l.atoms l.rank l.p l.left) ≡ take 64 (l.fn.out ++ with_negative l.atoms l.rank l.p l.rows);
}

abbrev pub decreases-loop-left : goal.decreases-loop-left
decreases-loop-left l = length l.left
