use Rattle.std.proofs.Common.{◌≡◌, ◌-◌, ◌≤◌, false, length, drop}
use Rattle.ap_tokens.specs.Scans.{more, string_len}
use Rattle.ap_tokens.proofs.scan.string_len.Given as goal

abbrev pub invariant-loop-n : goal.invariant-loop-n
invariant-loop-n l = record {
  within : l.n ≤ length l.text;
  left : more l.n (string_len l.taken (drop l.n l.text)) ≡ string_len false l.text;
}

abbrev pub decreases-loop-n : goal.decreases-loop-n
decreases-loop-n l = length l.text - l.n
