use Rattle.std.proofs.Common.{◌≡◌, ◌-◌, ◌≤◌, length, drop}
use Rattle.ap_reader.specs.Numbers.{past_digits}
use Rattle.ap_reader.proofs.number.past_digits.Given as goal

-- the bytes so far are digits
abbrev pub invariant-loop-n : goal.invariant-loop-n
invariant-loop-n l = record {
  within : l.n ≤ length l.text;
  same : past_digits (drop l.n l.text) ≡ past_digits l.text;
}

abbrev pub decreases-loop-n : goal.decreases-loop-n
decreases-loop-n l = length l.text - l.n
