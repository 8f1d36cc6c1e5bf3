use Rattle.std.proofs.Common.{◌≡◌, ◌++◌, drop}
use Rattle.ap_induct.specs.Choosing.{calls_among}
use Rattle.ap_induct.proofs.choosing.+calls.Given as goal

-- the calls so far, and those of what is left
abbrev pub invariant-push_all_calls-loop-t : goal.invariant-push_all_calls-loop-t
invariant-push_all_calls-loop-t l = l.out ++ calls_among (drop l.t-index l.ts) ≡ l.fn.out ++ calls_among l.ts
