use Rattle.std.proofs.Common.{◌≡◌, map, length}
use Rattle.ap_stated.specs.Shapes.{are_keyed}
use Rattle.ap_stated.proofs.shapes.are_keyed.Given as goal

-- what is left tells
abbrev pub invariant-loop-left : goal.invariant-loop-left
invariant-loop-left l = are_keyed (map (λ n. n.now) l.names) l.left ≡ are_keyed (map (λ n. n.now) l.names) l.options

abbrev pub decreases-loop-left : goal.decreases-loop-left
decreases-loop-left l = length l.left
