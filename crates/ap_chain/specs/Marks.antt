-- The marks of an attempt, and where a clause's goal stands among them.
use Rattle.std.specs.Prelude.{Bool, true, false, cond, ◌&&◌, ◌||◌, not, List, [], ◌∷◌, ◌++◌}
use Rattle.ap_term.specs.declared.term.Clause.{Clause}
use Rattle.ap_world.specs.Recursion.{args_eq}
use Rattle.ap_walk.specs.declared.rule.End.{End}
use Rattle.ap_walk.specs.declared.mark.Walked.{Walked}
use Rattle.ap_walk.specs.Tallies.{is_push}
use Rattle.ap_walk.specs.Visits.{Visit}
use Rattle.ap_strategy.specs.Goals.{Goal}

-- the marks of walks so far, and of one more; where that one reverts, none
abbrev pub kept : {T : Type 0} → End → List (Visit T) → List (Visit T) → List (Visit T)
kept End.Through before own = before ++ own
kept End.Revert before own = []
kept End.Limit before own = before ++ own
kept (End.Stopped reason) before own = before ++ own

abbrev pub kept_from : {T : Type 0} → List (Visit T) → List (Walked T) → List (Visit T)
kept_from before [] = before
kept_from before (w ∷ ws) = kept_from (kept w.end before w.marks) ws

-- the marks of an attempt's walks, one walk behind another, without those of a walk that reverts
abbrev pub kept_all : {T : Type 0} → List (Walked T) → List (Visit T)
kept_all ws = kept_from [] ws

-- the mark is of a goal of this clause, and of an induction where `induct` says so
abbrev pub is_for : Clause → Bool → Visit Goal → Bool
is_for c induct v = args_eq c.0 v.task.clause.0 && (not induct || v.task.induct)

-- the marks from the first such one on
abbrev pub from_goal : Clause → Bool → List (Visit Goal) → List (Visit Goal)
from_goal c induct [] = []
from_goal c induct (v ∷ vs) = cond (is_for c induct v) (v ∷ vs) (from_goal c induct vs)

-- where the first goal was pushed, the marks from the first induction of the clause on behind it
abbrev pub behind_push : Clause → List (Visit Goal) → List (Visit Goal)
behind_push c [] = []
behind_push c (v ∷ vs) = cond (is_push v.act.process) (from_goal c true vs) (v ∷ vs)

-- the marks from the one on whose step a clause's proof begins with
abbrev pub from_split : Clause → List (Visit Goal) → List (Visit Goal)
from_split c vs = behind_push c (from_goal c false vs)
