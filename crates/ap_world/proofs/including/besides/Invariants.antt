use Rattle.std.proofs.Common.{◌≡◌, take}
use Rattle.ap_world.specs.Including.{besides}
use Rattle.ap_world.proofs.including.besides.Given as goal

-- of the runes so far those that the theory enables are copied
abbrev pub invariant-loop-rune : goal.invariant-loop-rune
invariant-loop-rune l = l.out ≡ besides l.theory.disabled (take l.rune-index l.runes)
