use Rattle.std.proofs.Common.{◌≡◌, ◌++◌, drop}
use Rattle.ap_strategy.proofs.fresh.+renewing.Given as goal

-- what is made, and what will be of the rest
abbrev pub invariant-fresh_terms-loop-t : goal.invariant-fresh_terms-loop-t
invariant-fresh_terms-loop-t l = l.out ++ drop l.t-index l.ts ≡ l.ts
