use Rattle.std.proofs.Common.{◌≡◌, drop}
use Rattle.ap_hints.specs.Runes.{with_runes}
use Rattle.ap_hints.proofs.runes.push_runes.Given as goal

-- with what is left it comes to the same
abbrev pub invariant-loop-rune : goal.invariant-loop-rune
invariant-loop-rune l = with_runes l.list (drop l.rune-index l.runes) ≡ with_runes l.fn.list l.runes
