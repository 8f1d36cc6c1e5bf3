use Rattle.std.proofs.Common.{◌≡◌, [], drop}
use Rattle.ap_hints.specs.Hinted.{pairs_in}
use Rattle.ap_hints.proofs.uses.pairs.Given as goal

-- what is left tells
abbrev pub invariant-loop-form : goal.invariant-loop-form
invariant-loop-form l = pairs_in l.w.entries l.variables l.pairs (drop l.form-index l.forms) ≡ pairs_in l.w.entries l.variables [] l.forms
