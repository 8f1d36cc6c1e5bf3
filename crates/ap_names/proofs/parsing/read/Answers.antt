use Rattle.ap_names.proofs.Named.{no_front}
use Rattle.ap_names.proofs.parsing.read.Goals as goal

pub returns-in-None : goal.returns-in-None
returns-in-None c = no_front c.args.text.now c.in_default.ensures c.in_default-after.ensures c.in-None.ensures
