use Rattle.ap_clausify.proofs.Framed.{all_done}
use Rattle.ap_clausify.proofs.splitting.joined.Goals as goal

pub chain-requires-clause-goals : goal.chain-requires-clause-goals
chain-requires-clause-goals c = all_done c.args.w.now c.args.frame c.requires.waits c.requires.none
