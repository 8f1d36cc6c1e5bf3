use Rattle.std.proofs.Common.{arith}
use Rattle.ap_attempt.proofs.PushNames.{inductions_named}
use Rattle.ap_attempt.proofs.theorems.pushes_are_named.Goals as goal

pub returns : goal.returns
returns g c = λ tasks. inductions_named g.P.Step.name g.P.Prover.inducted g.met.P.Prover.named 1 tasks (omega arith)
