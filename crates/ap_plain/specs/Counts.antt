-- How many goals walks visit.
use Rattle.std.specs.Prelude.{ℕ, List, map}
use Rattle.ap_attempt.specs.Attempts.{RootedWalk}
use Rattle.ap_attempt.specs.Laws.{mark_count}
use Rattle.ap_strategy.specs.Goals.{Goal}

-- a walk makes a mark at each goal that it visits
abbrev pub goals_of : List (RootedWalk Goal) → ℕ
goals_of walks = mark_count (map (λ w. w.walked) walks)
