use Rattle.std.proofs.Common.{◌≡◌, ◌≤◌, drop, length}
use Rattle.ap_world.specs.Units.{characters}
use Rattle.ap_eval.proofs.texts.characters_of.Given as goal

-- the list is of the codes that are passed
abbrev pub invariant-loop-left : goal.invariant-loop-left
invariant-loop-left l = (l.left ≤ length l.codes) × (l.list ≡ characters (drop l.left l.codes))

abbrev pub decreases-loop-left : goal.decreases-loop-left
decreases-loop-left l = l.left
