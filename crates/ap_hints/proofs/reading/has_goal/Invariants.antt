use Rattle.std.proofs.Common.{◌≡◌, drop, map}
use Rattle.ap_list.specs.Lists.{is_among}
use Rattle.ap_names.specs.Names.{name_eq}
use Rattle.ap_hints.specs.Hinted.{goal_of}
use Rattle.ap_hints.proofs.reading.has_goal.Given as goal

-- what is left tells
abbrev pub invariant-loop-hint : goal.invariant-loop-hint
invariant-loop-hint l =
    is_among name_eq l.goal (map goal_of (drop l.hint-index l.hints)) ≡ is_among name_eq l.goal (map goal_of l.hints)
