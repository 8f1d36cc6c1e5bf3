use Rattle.std.proofs.Common.{◌≡◌, drop, Some}
use Rattle.ap_hints.specs.Forms.{both}
use Rattle.ap_hints.specs.Changes.{then_runes, all_runes}
use Rattle.ap_hints.proofs.changes.all_runes.Given as goal

-- the runes so far stand before those of the forms that are left
abbrev pub invariant-loop-form : goal.invariant-loop-form
invariant-loop-form l =
    both then_runes (Some l.out) (all_runes l.w.entries (drop l.form-index l.forms)) ≡ all_runes l.w.entries l.forms
