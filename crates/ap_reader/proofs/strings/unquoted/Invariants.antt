use Rattle.std.proofs.Common.{◌≡◌, ◌-◌, ◌≤◌, ◌++◌, false, length, drop}
use Rattle.ap_reader.specs.Strings.{unquoted}
use Rattle.ap_reader.proofs.strings.unquoted.Given as goal

-- the bytes so far, and those that are left, are all
abbrev pub invariant-loop-n : goal.invariant-loop-n
invariant-loop-n l = record {
  within : l.n ≤ length l.text;
  whole : l.out ++ unquoted l.escape (drop l.n l.text) ≡ unquoted false l.text;
}

abbrev pub decreases-loop-n : goal.decreases-loop-n
decreases-loop-n l = length l.text - l.n
