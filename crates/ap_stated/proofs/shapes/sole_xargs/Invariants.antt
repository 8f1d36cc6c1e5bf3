use Rattle.std.proofs.Common.{◌≡◌, ◌++◌, length, option_map}
use Rattle.ap_stated.specs.Shapes.{xargs_lists, in_list, at_most_one}
use Rattle.ap_stated.proofs.shapes.sole_xargs.Given as goal

-- what is found so far and what is left tell
abbrev pub invariant-loop-left : goal.invariant-loop-left
invariant-loop-left l =
    at_most_one (in_list (option_map (λ fs. fs.now) l.found) ++ xargs_lists l.left) ≡ at_most_one (xargs_lists l.declarations)

abbrev pub decreases-loop-left : goal.decreases-loop-left
decreases-loop-left l = length l.left
