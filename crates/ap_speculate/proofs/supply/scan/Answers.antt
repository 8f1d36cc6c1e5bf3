use Rattle.ap_speculate.proofs.Turning.{found_one, none_free}
use Rattle.ap_speculate.proofs.supply.scan.Goals as goal

pub returns-in-Found-clause-found : goal.returns-in-Found-clause-found
returns-in-Found-clause-found g c = found_one g.S.Step.step_of g.S.Step.depth c.claim.result c.in-Found.job c.in-Found.is c.claim.ensures.step c.claim.ensures.of

pub returns-in-Nothing-clause-none : goal.returns-in-Nothing-clause-none
returns-in-Nothing-clause-none g c = none_free g.S.Step.step_of g.S.Step.depth c.claim.result c.in-Nothing.is c.claim.ensures.step
