use Rattle.std.proofs.Common.{◌≡◌, drop}
use Rattle.ap_terminate.proofs.Calling.{each_flat}
use Rattle.ap_terminate.proofs.calls.+nesting.Given as goal

-- those that are left decide
abbrev pub invariant-have_flat_calls-loop-t : goal.invariant-have_flat_calls-loop-t
invariant-have_flat_calls-loop-t l = each_flat l.name (drop l.t-index l.ts) ≡ each_flat l.name l.ts
