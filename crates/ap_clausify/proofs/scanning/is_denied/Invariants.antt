use Rattle.std.proofs.Common.{◌≡◌, drop}
use Rattle.ap_kernel.specs.Tidying.{is_denied}
use Rattle.ap_clausify.proofs.scanning.is_denied.Given as goal

-- those that are left decide
abbrev pub invariant-loop-u : goal.invariant-loop-u
invariant-loop-u l = is_denied (drop l.u-index l.terms) l.t ≡ is_denied l.terms l.t
