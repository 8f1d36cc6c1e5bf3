use Rattle.std.proofs.Common.{drop}
use Rattle.ap_list.specs.Lists.{Each}
use Rattle.ap_hints.specs.Known.{KnownUse}
use Rattle.ap_tests_kernel.proofs.hints.are_uses.Given as goal

abbrev pub invariant-loop-name : goal.invariant-loop-name
invariant-loop-name l = Each (KnownUse l.w.entries) (drop l.name-index l.uses) → Each (KnownUse l.w.entries) l.uses
