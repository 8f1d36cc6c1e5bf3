use Rattle.std.proofs.Common.{◌∙◌, ap}
use Rattle.ap_translate.proofs.Chains.{pieces_onto, pieces_all}
use Rattle.ap_translate.proofs.build.pieced.Goals as goal

pub loop-piece-init : goal.loop-piece-init
loop-piece-init c = ap (pieces_onto c.args.pieces) c.in_ok-chain.ensures ∙ pieces_all c.args.pieces
