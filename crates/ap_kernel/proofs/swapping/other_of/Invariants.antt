use Rattle.std.proofs.Common.{◌≡◌, drop}
use Rattle.ap_list.specs.Lists.{lookup_by}
use Rattle.ap_term.specs.Equal.{term_eq}
use Rattle.ap_kernel.proofs.swapping.other_of.Given as goal

-- what is left of the pairs has the answer
abbrev pub invariant-loop-u : goal.invariant-loop-u
invariant-loop-u l = lookup_by term_eq (drop l.u-index l.pairs) l.t ≡ lookup_by term_eq l.pairs l.t
