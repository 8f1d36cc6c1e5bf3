use Rattle.std.proofs.Common.{◌≡◌, drop}
use Rattle.ap_list.specs.Lists.{lookup_by}
use Rattle.ap_term.specs.Equal.{term_eq}
use Rattle.ap_kernel.specs.Equations.{equal_of}
use Rattle.ap_kernel.proofs.equations.sign_of.Given as goal

-- what is left of the facts has the answer
abbrev pub invariant-loop-t : goal.invariant-loop-t
invariant-loop-t l = lookup_by term_eq (drop l.t-index l.facts) (equal_of l.a l.b) ≡ lookup_by term_eq l.facts (equal_of l.a l.b)
