use Rattle.std.proofs.Common.{◌≡◌, [], take}
use Rattle.ap_types.specs.Scopes.{entered}
use Rattle.ap_types.proofs.scopes.cut_by_none.Given as goal

-- those so far have no fact
abbrev pub invariant-loop-context : goal.invariant-loop-context
invariant-loop-context l = entered (take l.context-index l.contexts) ≡ []
