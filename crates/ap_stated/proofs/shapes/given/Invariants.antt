use Rattle.std.proofs.Common.{◌≡◌, ◌++◌, length, option_map}
use Rattle.ap_stated.specs.Shapes.{given, in_list, at_most_one}
use Rattle.ap_stated.proofs.shapes.given.Given as goal

-- what is found so far and what is left tell
abbrev pub invariant-loop-left : goal.invariant-loop-left
invariant-loop-left l = at_most_one (in_list (option_map (λ f. f.now) l.found) ++ given l.name l.left) ≡ at_most_one (given l.name l.options)

abbrev pub decreases-loop-left : goal.decreases-loop-left
decreases-loop-left l = length l.left
