use Rattle.std.proofs.Common.{◌≡◌, ◌-◌, ◌≤◌, length, drop}
use Rattle.ap_tokens.specs.Scans.{more, atom_len}
use Rattle.ap_tokens.proofs.scan.atom_len.Given as goal

abbrev pub invariant-loop-n : goal.invariant-loop-n
invariant-loop-n l = record {
  within : l.n ≤ length l.text;
  left : more l.n (atom_len l.bar l.taken (drop l.n l.text)) ≡ atom_len l.within_bars l.escaped l.text;
}

abbrev pub decreases-loop-n : goal.decreases-loop-n
decreases-loop-n l = length l.text - l.n
