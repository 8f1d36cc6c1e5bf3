use Rattle.std.proofs.Common.{subst, IsTrue, ◌↔◌}
use Rattle.ap_table.specs.Worded.{Worded}
use Rattle.ap_table.specs.Calls.{IsRootDone}
use Rattle.ap_table.proofs.state.TableState.root_done.Goals as goal

pub returns : goal.returns
returns g c = subst (λ (x : Worded g.row.S-Task.Denot). IsTrue c.root_done.result ↔ IsRootDone g.S.Step.step_of g.S.Step.depth x.run c.args.task.now c.args.rule) c.self.view_is c.root_done.ensures
