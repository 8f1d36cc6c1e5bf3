use Rattle.std.proofs.Common.{◌≡◌, ◌≤◌, ◌↔◌, drop, map}
use Rattle.ap_strategy.specs.Depths.{term_depth, greatest}
use Rattle.ap_strategy.proofs.depth.+depth.Given as goal

-- what is left decides of the whole
abbrev pub invariant-are_within-loop-x : goal.invariant-are_within-loop-x
invariant-are_within-loop-x l = (greatest (map term_depth (drop l.x-index l.xs)) ≤ l.levels) ↔ (greatest (map term_depth l.xs) ≤ l.levels)
