use Rattle.std.proofs.Common.{subst, IsTrue, ◌↔◌}
use Rattle.ap_table.specs.Worded.{Worded}
use Rattle.ap_table.specs.Ended.{HasEnded}
use Rattle.ap_table.proofs.state.TableState.is_done.Goals as goal

pub returns : goal.returns
returns g c = subst (λ (x : Worded g.row.S-Task.Denot). IsTrue c.is_done.result ↔ HasEnded g.S.Step.step_of g.S.Step.depth x.run) c.self.view_is c.is_done.ensures
