use Rattle.std.proofs.Common.{◌≡◌, drop}
use Rattle.ap_hints.specs.Answers.{each}
use Rattle.ap_hints.specs.Hinted.{use_in}
use Rattle.ap_hints.proofs.Refusals.{after}
use Rattle.ap_hints.proofs.uses.all_uses.Given as goal

-- the uses so far stand before those of the forms that are left
abbrev pub invariant-loop-form : goal.invariant-loop-form
invariant-loop-form l = after l.uses (each (use_in l.w.entries) (drop l.form-index l.forms)) ≡ each (use_in l.w.entries) l.forms
