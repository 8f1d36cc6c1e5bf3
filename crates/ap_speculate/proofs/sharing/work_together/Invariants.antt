use Rattle.ap_speculate.specs.Sides.{sided}
use Rattle.ap_speculate.proofs.sharing.work_together.Given as goal

-- the deques at the table are those that were made
abbrev pub ghosts-work_by : goal.ghosts-work_by
ghosts-work_by g a = record { all = sided a.deques.1.items }
