use Rattle.std.proofs.Common.{◌≡◌, drop}
use Rattle.ap_kernel.specs.Tidying.{any_decides, holds_by_itself}
use Rattle.ap_kernel.proofs.tidying.holds_by_itself.Given as goal

abbrev pub invariant-loop-t : goal.invariant-loop-t
invariant-loop-t l = any_decides l.terms (drop l.t-index l.terms) ≡ holds_by_itself l.terms
