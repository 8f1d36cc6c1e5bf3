-- Trees of tasks that are computed from their roots' numbers.
use Rattle.std.specs.Prelude.{ℕ, zero, suc, ◌+◌, ◌*◌, ◌%◌, true, false, nat_eq, if◌then◌else◌, List, [], ◌∷◌}
use Rattle.ap_walk.specs.declared.act.Reason.{Reason}
use Rattle.ap_walk.specs.declared.act.Process.{Process}
use Rattle.ap_walk.specs.declared.act.Out.{Out}
use Rattle.ap_walk.specs.declared.act.Stepped.{Stepped}
use Rattle.ap_tests_workers.specs.declared.tree.Task.{Task}

abbrev pub task : ℕ → ℕ → Task
task level number = record { level = level; number = number }

abbrev pub split : List Task → Stepped Task
split children = record { act = record { process = Process.Simplify; missed = false; limited = false }; out = Out.Split children }

abbrev pub pushed : Stepped Task
pushed = record { act = record { process = Process.Push; missed = true; limited = false }; out = Out.Push }

abbrev pub stopped : Stepped Task
stopped = record { act = record { process = Process.Stop; missed = true; limited = false }; out = Out.Stop Reason.NoScheme }

-- what comes of a task with no level below it, by its kind
abbrev pub leaf : ℕ → Stepped Task
leaf kind = if nat_eq kind 3 then pushed else if nat_eq kind 9 then pushed else if nat_eq kind 13 then stopped else split []

-- one, two or three children, by the task's kind
abbrev pub kids : ℕ → ℕ → ℕ → List Task
kids level kind number =
    if nat_eq kind 1 then task level number ∷ task level (number + 1) ∷ []
    else if nat_eq kind 2 then task level number ∷ []
    else task level number ∷ task level (number + 1) ∷ task level (number + 2) ∷ []

abbrev pub step_at : ℕ → ℕ → Stepped Task
step_at zero number = leaf (number % 16)
step_at (suc level) number = split (kids level (number % 4) (number % 1000 * 3))
