use Rattle.std.proofs.Common.{◌≡◌, drop}
use Rattle.ap_hints.specs.Hinted.{entries_in}
use Rattle.ap_hints.specs.Known.{no_hints}
use Rattle.ap_hints.proofs.reading.entries.Given as goal

-- what is left tells
abbrev pub invariant-loop-form : goal.invariant-loop-form
invariant-loop-form l = entries_in l.w l.hints (drop l.form-index l.forms) ≡ entries_in l.w no_hints l.forms
