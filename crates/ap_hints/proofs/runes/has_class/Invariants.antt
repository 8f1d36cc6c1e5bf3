use Rattle.std.proofs.Common.{◌≡◌, length}
use Rattle.ap_hints.specs.Runes.{has_class}
use Rattle.ap_hints.proofs.runes.has_class.Given as goal

-- what is left tells
abbrev pub invariant-loop-left : goal.invariant-loop-left
invariant-loop-left l = has_class l.kind l.left ≡ has_class l.kind l.classes

abbrev pub decreases-loop-left : goal.decreases-loop-left
decreases-loop-left l = length l.left
