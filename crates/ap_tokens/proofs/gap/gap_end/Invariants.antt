use Rattle.std.proofs.Common.{◌≡◌, ◌+◌, ◌≤◌, length}
use Rattle.ap_tokens.specs.Gaps.{gap}
use Rattle.ap_tokens.proofs.gap.gap_end.Given as goal

abbrev pub invariant-loop-n : goal.invariant-loop-n
invariant-loop-n l = record {
  passed : gap 0 l.at l.left ≡ gap 0 l.place l.text;
  within : l.at + length l.left ≡ l.place + length l.text;
  fewer : length l.left ≤ length l.text;
}

abbrev pub decreases-loop-n : goal.decreases-loop-n
decreases-loop-n l = length l.left
