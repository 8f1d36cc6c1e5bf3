use Rattle.std.proofs.Common.{length}
use Rattle.ap_session.proofs.command.+command_from.Given as goal

abbrev pub decreases-command_from : goal.decreases-command_from
decreases-command_from l = length l.words.now
