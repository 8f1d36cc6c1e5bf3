use Rattle.std.proofs.Common.{◌≡◌, length}
use Rattle.ap_translate.specs.Rows.{pieced}
use Rattle.ap_translate.proofs.Chains.{pieces_onto}
use Rattle.ap_translate.proofs.build.pieced.Given as goal

-- the parts that are left stand before those that are chained
abbrev pub invariant-loop-piece : goal.invariant-loop-piece
invariant-loop-piece l = pieces_onto l.left l.chain ≡ pieced l.fn.pieces

abbrev pub decreases-loop-piece : goal.decreases-loop-piece
decreases-loop-piece l = length l.left
