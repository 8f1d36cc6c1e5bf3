use Rattle.std.proofs.Common.{◌≡◌, take}
use Rattle.ap_world.proofs.including.copy_runes.Given as goal

-- what stands so far is copied
abbrev pub invariant-loop-rune : goal.invariant-loop-rune
invariant-loop-rune l = l.out ≡ take l.rune-index l.runes
