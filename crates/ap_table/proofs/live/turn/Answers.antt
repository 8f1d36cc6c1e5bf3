use Rattle.std.proofs.Common.{arith}
use Rattle.ap_table.proofs.Standing.{turned}
use Rattle.ap_table.proofs.live.turn.Goals as goal

pub returns : goal.returns
returns c = turned _ _ _ _ _ (omega (arith, c.requires)) (omega (arith, c.requires)) c.rotate_left.ensures.after
