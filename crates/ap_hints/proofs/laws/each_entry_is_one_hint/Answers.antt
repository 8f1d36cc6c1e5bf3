use Rattle.ap_hints.proofs.Named.{each_entry_is_one_hint}
use Rattle.ap_hints.proofs.laws.each_entry_is_one_hint.Goals as goal

pub returns : goal.returns
returns c = each_entry_is_one_hint
