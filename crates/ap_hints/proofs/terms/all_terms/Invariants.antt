use Rattle.std.proofs.Common.{◌≡◌, drop}
use Rattle.ap_hints.specs.Answers.{each}
use Rattle.ap_hints.specs.Hinted.{term_in}
use Rattle.ap_hints.proofs.Refusals.{after}
use Rattle.ap_hints.proofs.terms.all_terms.Given as goal

-- the terms so far stand before those of the forms that are left
abbrev pub invariant-loop-form : goal.invariant-loop-form
invariant-loop-form l = after l.terms (each (term_in l.w.entries) (drop l.form-index l.forms)) ≡ each (term_in l.w.entries) l.forms
