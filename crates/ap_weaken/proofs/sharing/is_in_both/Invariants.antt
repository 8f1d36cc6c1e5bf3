use Rattle.std.proofs.Common.{◌≡◌, drop, map}
use Rattle.ap_kernel.specs.Solving.{any_true}
use Rattle.ap_weaken.specs.Generalize.{is_in_both}
use Rattle.ap_weaken.proofs.sharing.is_in_both.Given as goal

-- those that are left decide
abbrev pub invariant-loop-u : goal.invariant-loop-u
invariant-loop-u l = any_true (map (is_in_both l.t) (drop l.u-index l.literals)) ≡ any_true (map (is_in_both l.t) l.literals)
