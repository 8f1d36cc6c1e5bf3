-- What is dropped in the walks of an attempt. Where siblings stop their walk by one of them, nothing that stands
-- behind that one is walked, so that a worker may drop it.
use Rattle.std.specs.Prelude.{◌≡◌, ℕ, ◌<◌, List, [], ◌∷◌, ◌++◌, Option, Some, None}
use Rattle.std.specs.List.{slice_get}
use Rattle.ap_list.specs.Lists.{Each}
use Rattle.ap_names.specs.Names.{Name}
use Rattle.ap_walk.specs.declared.act.Stepped.{Stepped}
use Rattle.ap_walk.specs.Visits.{out_children}
use Rattle.ap_table.specs.declared.link.DropNote.{DropNote}
use Rattle.ap_table.specs.Core.{Stops}
use Rattle.ap_attempt.specs.Attempts.{RootedWalk}

abbrev pub where_some : {T : Type 0} → Option T → (T → Option T) → Option T
where_some None next = None
where_some (Some task) next = next task

module _ {T : Type 0} (step : T → Stepped T) where
  -- the task below a task at these places, each the place of a child among its siblings, from 0
  unfoldable pub task_at : T → List ℕ → Option T
  task_at task [] = Some task
  task_at task (place ∷ places) = where_some (slice_get (out_children (step task).out) place) (λ child. task_at child places)

module _ {T : Type 0} (step : T → Stepped T) (depth : T → ℕ) (name : T → Name) where
  -- a drop that a walk may note: below the walk's root stands a task whose children stop the walk by one of them,
  -- and the dropped task is a later child, or stands below one; the note has the names of both
  pub record IsLicensed (w : RootedWalk T) (note : DropNote) : Type 0 where
    pub above : List ℕ
    pub parent : T
    pub parent_at : task_at step w.root above ≡ Some parent
    pub stopped : ℕ
    pub sibling : T
    pub sibling_at : task_at step parent (stopped ∷ []) ≡ Some sibling
    pub stops : Stops step depth w.rule parent stopped
    pub place : ℕ
    pub later : stopped < place
    pub below : List ℕ
    pub task : T
    pub dropped_at : task_at step parent (place ∷ below) ≡ Some task
    pub dropped : note.dropped ≡ name task
    pub named : note.stopped ≡ name sibling

  -- notes that divide in order into a part for each walk, each note one that its walk may make
  abbrev pub Divided : List DropNote → List (RootedWalk T) → Type 0
  Divided notes [] = notes ≡ []
  Divided notes (w ∷ ws) = (mine : List DropNote) × (rest : List DropNote) × (notes ≡ mine ++ rest) × Each (IsLicensed w) mine × Divided rest ws
