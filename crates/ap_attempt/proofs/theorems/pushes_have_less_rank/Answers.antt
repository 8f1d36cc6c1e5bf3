use Rattle.std.proofs.Common.{arith}
use Rattle.ap_attempt.proofs.Ranked.{walk_low}
use Rattle.ap_attempt.proofs.theorems.pushes_have_less_rank.Goals as goal

pub returns : goal.returns
returns g c = λ rule task k some.
    walk_low g.P.Step.step_of g.P.Step.depth g.met.P.Step.tells g.P.Prover.rank g.P.Prover.inducted k g.met.P.Prover.ranked
    (λ t. g.met.P.Prover.falling t k some) (g.P.Prover.rank task) rule task (omega arith)
