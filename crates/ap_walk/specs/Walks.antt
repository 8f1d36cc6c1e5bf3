-- The serial walk of a task, the list of all its marks, and the cut of such a list. A tree of tasks is
-- given by `step`, and is no deeper at a task than `depth` says.
use Rattle.std.specs.Prelude.{ℕ, zero, suc, List, [], ◌∷◌, ◌++◌}
use Rattle.ap_walk.specs.declared.act.Stepped.{Stepped}
use Rattle.ap_walk.specs.declared.rule.Tally.{Tally}
use Rattle.ap_walk.specs.declared.rule.Rule.{Rule}
use Rattle.ap_walk.specs.declared.rule.End.{End}
use Rattle.ap_walk.specs.declared.mark.Walked.{Walked}
use Rattle.ap_walk.specs.Visits.{Visit, visit_of, out_children}
use Rattle.ap_walk.specs.Tallies.{zero_tally, tally_after, end_after, tally_at, mark_end}

-- no visit
abbrev pub nothing : {T : Type 0} → Tally → Walked T
nothing tally = record { marks = []; tally = tally; end = End.Through }

-- marks that stand before those of a walk
abbrev pub before : {T : Type 0} → List (Visit T) → Walked T → Walked T
before marks w = record { marks = marks ++ w.marks; tally = w.tally; end = w.end }

-- what follows a walk, by how the walk ended
abbrev pub continued : {T : Type 0} → End → Walked T → (Tally → Walked T) → Walked T
continued End.Through w next = before w.marks (next w.tally)
continued End.Revert w next = w
continued End.Limit w next = w
continued (End.Stopped reason) w next = w

-- a walk, and where it goes through what follows from the tally that it left
abbrev pub and_then : {T : Type 0} → Walked T → (Tally → Walked T) → Walked T
and_then w next = continued w.end w next

-- the walks of a list one after another, up to the first that doesn't go through
abbrev pub in_order : {T : Type 0} → (T → Tally → Walked T) → List T → Tally → Walked T
in_order walk_one [] tally = nothing tally
in_order walk_one (task ∷ tasks) tally = and_then (walk_one task tally) (in_order walk_one tasks)

-- the visit of a task alone
abbrev pub first_visit : {T : Type 0} → (T → Stepped T) → Rule → T → Tally → Walked T
first_visit step rule task tally =
    let out = (step task).out in
    record {
      marks = visit_of task (step task) ∷ [];
      tally = tally_after out tally;
      end = end_after rule out (tally_after out tally);
    }

-- the walk of a task down to some depth: its own visit, and then its children in order. A task whose
-- depth is 0 has no children.
unfoldable pub walk_to : {T : Type 0} → (T → Stepped T) → Rule → ℕ → T → Tally → Walked T
walk_to step rule zero task tally = first_visit step rule task tally
walk_to step rule (suc n) task tally =
    and_then (first_visit step rule task tally) (in_order (walk_to step rule n) (out_children (step task).out))

-- the serial walk of a task from a tally
abbrev pub walk : {T : Type 0} → (T → Stepped T) → (T → ℕ) → Rule → T → Tally → Walked T
walk step depth rule task tally = walk_to step rule (depth task) task tally

-- the serial walk of tasks in order
abbrev pub walk_all : {T : Type 0} → (T → Stepped T) → (T → ℕ) → Rule → List T → Tally → Walked T
walk_all step depth rule tasks tally = in_order (walk step depth rule) tasks tally

-- the lists of the elements, joined in order
abbrev pub join_each : {A B : Type 0} → (A → List B) → List A → List B
join_each f [] = []
join_each f (x ∷ xs) = f x ++ join_each f xs

-- the marks of a task down to some depth, with no stop
unfoldable pub marks_to : {T : Type 0} → (T → Stepped T) → ℕ → T → List (Visit T)
marks_to step zero task = visit_of task (step task) ∷ []
marks_to step (suc n) task = visit_of task (step task) ∷ join_each (marks_to step n) (out_children (step task).out)

-- all marks of a task: its own, and then all marks of each child in order
abbrev pub all_marks : {T : Type 0} → (T → Stepped T) → (T → ℕ) → T → List (Visit T)
all_marks step depth task = marks_to step (depth task) task

-- one mark, counted from a tally
abbrev pub one_mark : {T : Type 0} → Rule → Tally → Visit T → Walked T
one_mark rule tally mark =
    record { marks = mark ∷ []; tally = tally_at mark tally; end = mark_end rule mark (tally_at mark tally) }

-- the marks up to the first at which a walk ends, counted from a tally
unfoldable pub cut : {T : Type 0} → Rule → Tally → List (Visit T) → Walked T
cut rule tally [] = nothing tally
cut rule tally (mark ∷ marks) = and_then (one_mark rule tally mark) (λ next. cut rule next marks)

-- the cut of all marks of a task, from the empty tally
abbrev pub full : {T : Type 0} → (T → Stepped T) → (T → ℕ) → Rule → T → Walked T
full step depth rule task = cut rule zero_tally (all_marks step depth task)

-- the full marks of tasks, joined in order
abbrev pub full_marks : {T : Type 0} → (T → Stepped T) → (T → ℕ) → Rule → List T → List (Visit T)
full_marks step depth rule tasks = join_each (λ task. (full step depth rule task).marks) tasks
