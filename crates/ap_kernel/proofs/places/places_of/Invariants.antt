use Rattle.std.proofs.Common.{◌≡◌, ◌++◌, length, map, zip}
use Rattle.ap_kernel.specs.Induction.{place_of, places_of}
use Rattle.ap_kernel.proofs.places.places_of.Given as goal

-- the places so far, and those of what is left
abbrev pub invariant-loop-left : goal.invariant-loop-left
invariant-loop-left l = l.out ++ map (place_of l.function.formals l.measure l.function.cases l.actuals) (zip l.left l.values) ≡ places_of l.function.formals l.measure l.function.cases l.actuals

abbrev pub decreases-loop-left : goal.decreases-loop-left
decreases-loop-left l = length l.left
