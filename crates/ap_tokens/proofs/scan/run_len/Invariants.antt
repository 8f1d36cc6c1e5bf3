use Rattle.std.proofs.Common.{◌≡◌, ◌+◌, ◌-◌, ◌≤◌, length, drop}
use Rattle.ap_tokens.specs.Scans.{run_len}
use Rattle.ap_tokens.proofs.scan.run_len.Given as goal

abbrev pub invariant-loop-n : goal.invariant-loop-n
invariant-loop-n l = record {
  within : l.n ≤ length l.text;
  left : l.n + run_len (drop l.n l.text) ≡ run_len l.text;
}

abbrev pub decreases-loop-n : goal.decreases-loop-n
decreases-loop-n l = length l.text - l.n
