use Rattle.std.proofs.Common.{◌≡◌, drop, map, zip}
use Rattle.ap_world.specs.Recursion.{is_changed}
use Rattle.ap_kernel.specs.Induction.{any_true}
use Rattle.ap_kernel.proofs.places.some_changes.Given as goal

-- those that are left decide
abbrev pub invariant-loop-call : goal.invariant-loop-call
invariant-loop-call l = any_true (map (λ c. is_changed l.x (zip l.formals c)) (drop l.call-index l.calls)) ≡ any_true (map (λ c. is_changed l.x (zip l.formals c)) l.calls)
