use Rattle.std.proofs.Common.{◌≡◌, take}
use Rattle.ap_list.specs.Lists.{is_among}
use Rattle.ap_value.specs.declared.symbol.Symbol.{Symbol}
use Rattle.ap_world.specs.declared.theory.RuneKind.{RuneKind}
use Rattle.ap_world.specs.Theories.{rune_of, rune_eq}
use Rattle.ap_world.specs.RuneTables.{has_rune}
use Rattle.ap_world.proofs.runes.table_of.Given as goal

-- the table has the runes so far
abbrev pub invariant-loop-rune : goal.invariant-loop-rune
invariant-loop-rune l = (k : RuneKind) (f : Symbol) → has_rune l.table k f ≡ is_among rune_eq (rune_of k f) (take l.rune-index l.runes)
