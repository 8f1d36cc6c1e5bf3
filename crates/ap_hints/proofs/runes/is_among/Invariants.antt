use Rattle.std.proofs.Common.{◌≡◌, drop}
use Rattle.ap_list.specs.Lists.{is_among}
use Rattle.ap_world.specs.Theories.{rune_eq}
use Rattle.ap_hints.proofs.runes.is_among.Given as goal

-- what is left tells
abbrev pub invariant-loop-other : goal.invariant-loop-other
invariant-loop-other l = is_among rune_eq l.rune (drop l.other-index l.list) ≡ is_among rune_eq l.rune l.list
