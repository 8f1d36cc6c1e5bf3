use Rattle.std.proofs.Common.{length, take, ◌-◌, ◌≤◌}
use Rattle.ap_list.specs.Lists.{Each}
use Rattle.ap_names.specs.Reads.{IsDigit}
use Rattle.ap_names.proofs.parsing.split_digits.Given as goal

abbrev pub invariant-loop-count : goal.invariant-loop-count
invariant-loop-count l = (l.count ≤ length l.text) × Each IsDigit (take l.count l.text)

abbrev pub decreases-loop-count : goal.decreases-loop-count
decreases-loop-count l = length l.text - l.count
