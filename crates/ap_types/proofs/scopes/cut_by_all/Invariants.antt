use Rattle.std.proofs.Common.{◌≡◌, drop}
use Rattle.ap_types.proofs.Scoped.{cut_each}
use Rattle.ap_types.proofs.scopes.cut_by_all.Given as goal

-- what is left of the contexts cuts the rest
abbrev pub invariant-loop-context : goal.invariant-loop-context
invariant-loop-context l = cut_each (drop l.context-index l.contexts) l.t l.out ≡ cut_each l.contexts l.t l.mask
