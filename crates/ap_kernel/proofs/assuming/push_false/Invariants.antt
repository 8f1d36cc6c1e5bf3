use Rattle.std.proofs.Common.{◌≡◌, ◌++◌, drop}
use Rattle.ap_kernel.specs.Reductions.{all_false}
use Rattle.ap_kernel.proofs.assuming.push_false.Given as goal

-- what is there so far, and the facts of the terms that are left
abbrev pub invariant-loop-t : goal.invariant-loop-t
invariant-loop-t l = l.facts ++ all_false (drop l.t-index l.ts) ≡ l.initial.facts ++ all_false l.ts
