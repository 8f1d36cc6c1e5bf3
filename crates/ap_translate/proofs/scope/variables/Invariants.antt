use Rattle.std.proofs.Common.{◌≡◌, [], drop}
use Rattle.ap_translate.specs.Table.{variables}
use Rattle.ap_translate.proofs.Bindings.{named_onto}
use Rattle.ap_translate.proofs.scope.variables.Given as goal

-- the variables so far, before those that are left, are all
abbrev pub invariant-loop-form : goal.invariant-loop-form
invariant-loop-form l = named_onto l.out (variables l.place l.out (drop l.form-index l.forms)) ≡ variables l.place [] l.forms
