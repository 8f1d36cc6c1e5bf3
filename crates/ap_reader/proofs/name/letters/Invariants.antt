use Rattle.std.proofs.Common.{◌≡◌, ◌-◌, ◌≤◌, ◌++◌, false, length, drop}
use Rattle.ap_reader.specs.Names.{letters_of}
use Rattle.ap_reader.proofs.name.letters.Given as goal

-- the letters so far, and those that are left, are all
abbrev pub invariant-loop-n : goal.invariant-loop-n
invariant-loop-n l = record {
  within : l.n ≤ length l.text;
  whole : l.out ++ letters_of l.bar l.escape (drop l.n l.text) ≡ letters_of false false l.text;
}

abbrev pub decreases-loop-n : goal.decreases-loop-n
decreases-loop-n l = length l.text - l.n
