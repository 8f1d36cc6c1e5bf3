use Rattle.ap_rewrite.proofs.RewritingStands.{rewriting_stands}
use Rattle.ap_rewrite.proofs.laws.rewriting_stands.Goals as goal

pub returns : goal.returns
returns c = rewriting_stands
