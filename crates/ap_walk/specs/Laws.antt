-- Words of the laws of walks.
use Rattle.std.specs.Prelude.{◌≡◌, ◌+◌, ◌≤◌, Bool, true, false, ◌&&◌, nat_eq, if◌then◌else◌, IsTrue, List, [], ◌∷◌, length}
use Rattle.ap_list.specs.Lists.{AnyOf}
use Rattle.ap_walk.specs.declared.act.Stepped.{Stepped}
use Rattle.ap_walk.specs.declared.rule.Tally.{Tally}
use Rattle.ap_walk.specs.declared.rule.Rule.{Rule}
use Rattle.ap_walk.specs.declared.rule.End.{End}
use Rattle.ap_walk.specs.declared.mark.Walked.{Walked}
use Rattle.ap_walk.specs.Visits.{Visit, out_children}
use Rattle.ap_walk.specs.Tallies.{IsOpen, can_revert, is_push}

-- the task stands before the others where it was pushed
abbrev pub with_pushed : {T : Type 0} → Bool → T → List T → List T
with_pushed true task tasks = task ∷ tasks
with_pushed false task tasks = tasks

-- the tasks that were pushed, in order
abbrev pub pushed : {T : Type 0} → List (Visit T) → List T
pushed [] = []
pushed (mark ∷ marks) = with_pushed (is_push mark.act.process) mark.task (pushed marks)

-- a path down from a task: each next task is a child of the one before
abbrev pub IsPath : {T : Type 0} → (T → Stepped T) → T → List T → Type 0
IsPath step task [] = Unit {0}
IsPath step task (next ∷ path) = AnyOf (λ child. child ≡ next) (out_children (step task).out) × IsPath step next path

-- the tests of a tally by equality: pushes are those of a revert where the rule reverts, or else goals are the limit
unfoldable pub end_when : Rule → Tally → End
end_when rule tally =
    if can_revert rule && nat_eq tally.pushes rule.revert then End.Revert
    else if nat_eq tally.goals rule.goal_limit then End.Limit
    else End.Through

-- a walk that began at an open tally ends where a count is what its rule says, and not past it
pub record StopsAt {T : Type 0} (rule : Rule) (w : Walked T) : Type 0 where
  pub through : w.end ≡ End.Through → IsOpen rule w.tally
  pub revert : w.end ≡ End.Revert → IsTrue (can_revert rule) × (w.tally.pushes ≡ rule.revert)
  pub limit : w.end ≡ End.Limit → w.tally.goals ≡ rule.goal_limit
  pub within : w.tally.goals ≤ rule.goal_limit

-- each mark of a walk from a tally counts one goal
abbrev pub CountsFrom : {T : Type 0} → Tally → Walked T → Type 0
CountsFrom tally w = w.tally.goals ≡ tally.goals + length w.marks
