use Rattle.std.proofs.Common.{◌≡◌, ◌-◌, length}
use Rattle.ap_weaken.specs.Fertilize.{first_number, is_usable, hypothesis}
use Rattle.ap_weaken.proofs.fertilizing.hypothesis.Given as goal

-- the places that are left have the answer
abbrev pub invariant-loop-i : goal.invariant-loop-i
invariant-loop-i l = first_number (is_usable l.c) (length l.c.0 - l.i) l.i ≡ hypothesis l.c
