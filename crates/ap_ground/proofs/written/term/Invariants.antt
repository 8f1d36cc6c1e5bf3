use Rattle.std.proofs.Common.{◌≡◌, ◌≤◌, drop, length, reverse}
use Rattle.ap_ground.specs.Written.{terms_of}
use Rattle.ap_ground.proofs.written.term.Given as goal

-- the terms of the words from this place on are on the stack, the first one last
abbrev pub invariant-loop-place : goal.invariant-loop-place
invariant-loop-place l = record {
  written : reverse l.stack ≡ terms_of (drop l.place l.words);
  within : l.place ≤ length l.words;
}

abbrev pub decreases-loop-place : goal.decreases-loop-place
decreases-loop-place l = l.place
