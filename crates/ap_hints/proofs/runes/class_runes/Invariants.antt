use Rattle.std.proofs.Common.{◌≡◌, map, take}
use Rattle.ap_hints.specs.Runes.{class_rune}
use Rattle.ap_hints.proofs.runes.class_runes.Given as goal

-- the runes so far
abbrev pub invariant-loop-class : goal.invariant-loop-class
invariant-loop-class l = l.out ≡ map (class_rune l.name) (take l.class-index l.classes)
