use Rattle.std.proofs.Common.{◌∙◌}
use Rattle.std.proofs.lemmas.Result.{on_ok_weaker}
use Rattle.ap_world.proofs.Theories.{rune_copied}
use Rattle.ap_world.proofs.runes.RuneTable.add_copy.Goals as goal

pub returns : goal.returns
returns c =
    on_ok_weaker c.add.result
    (rune_copied c.args.self.now c.add.new.self c.args.rune.now c.kind.result c.in_ok-name.name c.kind.ensures (c.in_ok-name.ensures ∙ c.symbol.ensures))
    c.add.ensures
