use Rattle.std.proofs.Common.{◌≡◌, drop}
use Rattle.ap_list.specs.Lists.{is_among}
use Rattle.ap_world.specs.Recursion.{args_eq}
use Rattle.ap_terminate.proofs.calls.is_listed.Given as goal

-- those that are left decide
abbrev pub invariant-loop-call : goal.invariant-loop-call
invariant-loop-call l = is_among args_eq l.arguments (drop l.call-index l.calls) ≡ is_among args_eq l.arguments l.calls
