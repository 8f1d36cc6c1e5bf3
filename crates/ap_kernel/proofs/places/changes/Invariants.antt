use Rattle.std.proofs.Common.{◌≡◌, drop, map, zip}
use Rattle.ap_world.specs.declared.entry.Case.{Case}
use Rattle.ap_world.specs.Recursion.{is_changed}
use Rattle.ap_kernel.specs.Induction.{any_true}
use Rattle.ap_kernel.proofs.places.changes.Given as goal

-- those that are left decide
abbrev pub invariant-loop-case : goal.invariant-loop-case
invariant-loop-case l =
    any_true (map (λ (k : Case). any_true (map (λ c. is_changed l.x (zip l.formals c)) k.calls)) (drop l.case-index l.cases))
    ≡ any_true (map (λ (k : Case). any_true (map (λ c. is_changed l.x (zip l.formals c)) k.calls)) l.cases)
