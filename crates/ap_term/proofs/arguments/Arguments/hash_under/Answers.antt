use Rattle.std.proofs.Common.{◌≡◌}
use Rattle.ap_term.proofs.KeptCounts.{hash_call}
use Rattle.ap_term.proofs.arguments.Arguments.hash_under.Goals as goal

pub returns : goal.returns
returns c = rw (hash_call _ _, ← c.symbol_hash.ensures, ← c.hash.ensures) c.mixed.ensures
