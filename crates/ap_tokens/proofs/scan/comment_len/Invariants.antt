use Rattle.std.proofs.Common.{◌≡◌, ◌-◌, ◌≤◌, length, drop}
use Rattle.ap_tokens.specs.Scans.{more, comment_len}
use Rattle.ap_tokens.proofs.scan.comment_len.Given as goal

abbrev pub invariant-loop-n : goal.invariant-loop-n
invariant-loop-n l = record {
  within : l.n ≤ length l.text;
  nested : l.deep ≤ l.n;
  left : more l.n (comment_len l.deep (drop l.n l.text)) ≡ comment_len 0 l.text;
}

abbrev pub decreases-loop-n : goal.decreases-loop-n
decreases-loop-n l = length l.text - l.n
