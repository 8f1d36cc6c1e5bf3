use Rattle.std.proofs.Common.{ap}
use Rattle.ap_rewrite.specs.Answering.{where_applied}
use Rattle.ap_rewrite.proofs.calls.followed.Goals as goal

pub follow-requires-clause-second : goal.follow-requires-clause-second
follow-requires-clause-second g c = c.requires.second c.in-Applied.more (ap where_applied c.in-Applied.is)
