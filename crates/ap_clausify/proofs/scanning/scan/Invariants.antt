use Rattle.std.proofs.Common.{◌≡◌, true, false, [], take}
use Rattle.ap_list.specs.Lists.{Each}
use Rattle.ap_clausify.specs.Places.{has_if}
use Rattle.ap_clausify.specs.Scanning.{IsTidy}
use Rattle.ap_clausify.proofs.scanning.scan.Given as goal

-- no place is added yet, the literals so far have no `if`, and it is known whether they are tidy
abbrev pub invariant-loop-literal : goal.invariant-loop-literal
invariant-loop-literal l = record {
  at : l.at ≡ [];
  none : Each (λ u. has_if u ≡ false) (take l.literal l.c.0);
  tidy : l.tidy ≡ true → IsTidy (take l.literal l.c.0);
}
