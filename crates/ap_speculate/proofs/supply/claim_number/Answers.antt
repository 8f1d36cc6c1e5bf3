use Rattle.ap_speculate.proofs.Turning.{found_at}
use Rattle.ap_speculate.proofs.supply.claim_number.Goals as goal

pub returns-in-Found : goal.returns-in-Found
returns-in-Found g c = found_at g.S.Step.step_of g.S.Step.depth c.claim_node.result c.in-Found.job c.in-Some.node c.in-Found.is c.claim_node.ensures.step c.claim_node.ensures.of
