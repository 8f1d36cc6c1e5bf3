use Rattle.std.proofs.Common.{drop}
use Rattle.ap_list.specs.Lists.{Each}
use Rattle.ap_hints.specs.Known.{KnownTerm}
use Rattle.ap_tests_kernel.proofs.hints.are_terms.Given as goal

abbrev pub invariant-loop-t : goal.invariant-loop-t
invariant-loop-t l = Each (KnownTerm l.w.entries) (drop l.t-index l.ts) → Each (KnownTerm l.w.entries) l.ts
