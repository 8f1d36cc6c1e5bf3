use Rattle.std.proofs.Common.{◌∙◌}
use Rattle.ap_world.proofs.Theories.{copied_rune}
use Rattle.ap_world.proofs.theory.copy_rune.Goals as goal

pub returns : goal.returns
returns c = copied_rune c.args.rune.now c.rune_of.result c.kind.result c.in_ok-name.name c.rune_of.ensures c.kind.ensures (c.in_ok-name.ensures ∙ c.symbol.ensures)
