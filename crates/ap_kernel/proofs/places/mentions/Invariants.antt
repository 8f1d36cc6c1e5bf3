use Rattle.std.proofs.Common.{◌≡◌, drop}
use Rattle.ap_world.specs.Recursion.{mentions}
use Rattle.ap_kernel.proofs.places.mentions.Given as goal

-- those that are left decide
abbrev pub invariant-loop-t : goal.invariant-loop-t
invariant-loop-t l = mentions l.x (drop l.t-index l.terms) ≡ mentions l.x l.terms
