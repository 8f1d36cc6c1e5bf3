use Rattle.std.proofs.Common.{◌≡◌, drop, map}
use Rattle.ap_kernel.specs.Solving.{any_true}
use Rattle.ap_kernel.specs.Swapping.{is_part}
use Rattle.ap_kernel.proofs.swapping.+finding.Given as goal

-- those that are left decide
abbrev pub invariant-some_contains-loop-u : goal.invariant-some_contains-loop-u
invariant-some_contains-loop-u l = any_true (map (is_part l.t) (drop l.u-index l.us)) ≡ any_true (map (is_part l.t) l.us)
