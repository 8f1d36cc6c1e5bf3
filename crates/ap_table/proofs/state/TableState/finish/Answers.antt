use Rattle.std.proofs.Common.{sym, subst}
use Rattle.ap_table.specs.Worded.{Worded}
use Rattle.ap_table.specs.Ended.{HasEnded}
use Rattle.ap_table.proofs.state.TableState.finish.Goals as goal

pub finish-requires : goal.finish-requires
finish-requires g c = subst (λ (x : Worded g.row.S-Task.Denot). HasEnded g.S.Step.step_of g.S.Step.depth x.run) (sym c.self.view_is) c.requires
