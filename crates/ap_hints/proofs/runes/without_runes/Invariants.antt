use Rattle.std.proofs.Common.{◌≡◌, ◌++◌, drop}
use Rattle.ap_hints.specs.Runes.{without_runes}
use Rattle.ap_hints.proofs.runes.without_runes.Given as goal

-- the runes so far stand before those of the ones that are left
abbrev pub invariant-loop-rune : goal.invariant-loop-rune
invariant-loop-rune l = l.out ++ without_runes l.enabled (drop l.rune-index l.disabled) ≡ without_runes l.enabled l.disabled
