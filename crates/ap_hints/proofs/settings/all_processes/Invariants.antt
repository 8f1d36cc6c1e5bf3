use Rattle.std.proofs.Common.{◌≡◌, drop}
use Rattle.ap_hints.specs.Answers.{each}
use Rattle.ap_hints.specs.Hinted.{process_in}
use Rattle.ap_hints.proofs.Refusals.{after}
use Rattle.ap_hints.proofs.settings.all_processes.Given as goal

-- the processes so far stand before those of the forms that are left
abbrev pub invariant-loop-form : goal.invariant-loop-form
invariant-loop-form l = after l.processes (each process_in (drop l.form-index l.forms)) ≡ each process_in l.forms
