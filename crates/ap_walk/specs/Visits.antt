-- What one visit leaves behind: the task, what its step did, and a number that tells the children apart
-- from a reason to stop.
use Rattle.std.specs.Prelude.{◌≡◌, ◌≢◌, ◌≤◌, ℕ, nat_eq, min, if◌then◌else◌, List, [], length}
use Rattle.ap_walk.specs.declared.act.Reason.{Reason}
use Rattle.ap_walk.specs.declared.act.Process.{Process}
use Rattle.ap_walk.specs.declared.act.Act.{Act}
use Rattle.ap_walk.specs.declared.act.Out.{Out}
use Rattle.ap_walk.specs.declared.act.Stepped.{Stepped}

-- a mark, as contracts see it
pub record Visit (T : Type 0) : Type 0 where
  pub task : T
  pub act : Act
  pub children : ℕ

-- the number of a reason, 1 to 6
abbrev pub reason_number : Reason → ℕ
reason_number Reason.NoScheme = 1
reason_number Reason.EmptyClause = 2
reason_number Reason.GoalLimit = 3
reason_number Reason.PathDepth = 4
reason_number Reason.InductionDepth = 5
reason_number Reason.DoNotInduct = 6

-- the reason that has a number, 1 to 6
unfoldable pub reason_of : ℕ → Reason
reason_of n =
    if nat_eq n 1 then Reason.NoScheme
    else if nat_eq n 2 then Reason.EmptyClause
    else if nat_eq n 3 then Reason.GoalLimit
    else if nat_eq n 4 then Reason.PathDepth
    else if nat_eq n 5 then Reason.InductionDepth
    else Reason.DoNotInduct

-- the tasks that a task splits into
abbrev pub out_children : {T : Type 0} → Out T → List T
out_children (Out.Split children) = children
out_children Out.Push = []
out_children (Out.Stop reason) = []

-- the task splits, also where it splits into none
abbrev pub IsSplit : {T : Type 0} → Out T → Type 0
IsSplit (Out.Split children) = Unit {0}
IsSplit Out.Push = ⊥
IsSplit (Out.Stop reason) = ⊥

-- the process is Push exactly where the task is pushed, and Stop exactly where the attempt stops
abbrev pub Tells : {T : Type 0} → Process → Out T → Type 0
Tells process (Out.Split children) = (process ≢ Process.Push) × (process ≢ Process.Stop)
Tells process Out.Push = process ≡ Process.Push
Tells process (Out.Stop reason) = process ≡ Process.Stop

-- the number of children, or the greatest that 32 bits hold; 0 at a push; the reason's number at a stop
abbrev pub child_count : {T : Type 0} → Out T → ℕ
child_count (Out.Split children) = min (length children) 4294967295
child_count Out.Push = 0
child_count (Out.Stop reason) = reason_number reason

-- a count that a mark may have beside its process: at a stop it is the number of a reason
abbrev pub IsCounted : Process → ℕ → Type 0
IsCounted process children = process ≡ Process.Stop → (1 ≤ children) × (children ≤ 6)

-- the mark of a task that took this step
abbrev pub visit_of : {T : Type 0} → T → Stepped T → Visit T
visit_of task stepped = record { task = task; act = stepped.act; children = child_count stepped.out }
